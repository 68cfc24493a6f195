use Rattle.std.proofs.Common.{Err, Some, refl, sym, subst}
use Rattle.mdb_schema.specs.Answer.{key_asked}
use Rattle.mdb_schema.specs.declared.ask_error.AskError.{AskError}
use Rattle.mdb_schema.proofs.AskedKeys.{found_key, refused_key}
use Rattle.table_index.specs.inner.Lookups.{AnswersAskedKey, key_or_empty}
use Rattle.table_index.proofs.question_key.key_asked.Goals as goal

pub returns-in-Ok-clause-answers : goal.returns-in-Ok-clause-answers
returns-in-Ok-clause-answers c =
    found_key key_or_empty c.args.index.now c.args.query.now (sym c.if-not-has_argument.ensures) c.in-Ok.key (Some c.in-Ok.key) refl c.in-Ok.ensures.answers

pub returns-in-Err-clause-answers : goal.returns-in-Err-clause-answers
returns-in-Err-clause-answers c =
    subst (λ (e : AskError). AnswersAskedKey (key_asked c.args.index.now c.args.query.now c.args.query.now.args) (Err e)) (sym c.of_argument.ensures)
    (refused_key key_or_empty c.args.index.now c.args.query.now (sym c.if-not-has_argument.ensures) c.in-Err.error c.in-Err.ensures.answers)
