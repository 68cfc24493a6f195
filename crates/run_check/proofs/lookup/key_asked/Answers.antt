use Rattle.std.proofs.Common.{◌∙◌, Err, sym, subst, rules}
use Rattle.mdb_schema.specs.Answer.{key_asked}
use Rattle.mdb_schema.specs.declared.ask_error.AskError.{AskError}
use Rattle.mdb_schema.proofs.AskedKeys.{found_key, memory_key, refused_key}
use Rattle.run_check.specs.inner.KeyView.{bytes_of}
use Rattle.run_check.specs.inner.LookupView.{AnswersAskedKey}
use Rattle.run_check.proofs.lookup.key_asked.Goals as goal

pub returns-in_err-to_vec-in-Ok : goal.returns-in_err-to_vec-in-Ok
returns-in_err-to_vec-in-Ok c =
    memory_key bytes_of c.args.index.now c.args.query.now (sym c.has_argument.ensures ∙ c.if-not-has_argument.false) c.in-Ok.key c.from_residual.result (search rules) c.in-Ok.ensures

pub returns-in_ok-to_vec-in-Ok : goal.returns-in_ok-to_vec-in-Ok
returns-in_ok-to_vec-in-Ok c =
    found_key bytes_of c.args.index.now c.args.query.now (sym c.has_argument.ensures ∙ c.if-not-has_argument.false) c.in-Ok.key c.in_ok-to_vec-in-Ok.field-0 (search rules) c.in-Ok.ensures

pub returns-in-Err : goal.returns-in-Err
returns-in-Err c =
    subst (λ (e : AskError). AnswersAskedKey (key_asked c.args.index.now c.args.query.now c.args.query.now.args) (Err e)) (sym c.of_argument.ensures)
    (refused_key bytes_of c.args.index.now c.args.query.now (sym c.has_argument.ensures ∙ c.if-not-has_argument.false) c.in-Err.error c.in-Err.ensures)
