use Rattle.std.proofs.Common.{subst, sym, Err}
use Rattle.mdb_schema.specs.Answer.{lookup_of}
use Rattle.mdb_schema.specs.declared.ask.Ask.TheVariants.{Get}
use Rattle.table_index.specs.inner.Wipes.{AnswersTarget}
use Rattle.table_index.specs.declared.wipe_error.WipeError.{WipeError}
use Rattle.table_index.proofs.WipeAnswers.{target_found, target_refused}
use Rattle.table_index.proofs.wipe_rules.wipe_target.Goals as goal

pub returns-in-Ok-clause-answers : goal.returns-in-Ok-clause-answers
returns-in-Ok-clause-answers c = target_found (lookup_of c.args.def.now (record c.args.query.now { ask = Get })) c.in-Ok.at c.in-Ok.ensures.answers

pub returns-in-Err-clause-answers : goal.returns-in-Err-clause-answers
returns-in-Err-clause-answers c =
    let told = lookup_of c.args.def.now (record c.args.query.now { ask = Get }) in
    subst (λ (e : WipeError). AnswersTarget told (Err e)) (sym c.wipe_error.ensures) (target_refused told c.in-Err.error c.in-Err.ensures.answers)
