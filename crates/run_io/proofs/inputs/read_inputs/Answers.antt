-- A script breaks a rule, behind a lawful schema.
use Rattle.std.proofs.Common.{◌≡◌, ℕ, List, subst, Err, Ok}
use Rattle.std.specs.Prelude.{Vec}
use Rattle.std.specs.declared.alloc.Global.{Global}
use Rattle.std.proofs.lemmas.Result.{err_from_is_err_and}
use Rattle.mdb_datum.specs.Reading.{reading}
use Rattle.mdb_schema.specs.Reading.{schema_of}
use Rattle.run_io.specs.Inputs.{schema_answer, scripts_in}
use Rattle.run_io.specs.inner.ReadingResult.{IsReadingResult}
use Rattle.run_io.specs.inner.ContentsOf.{bytes_in}
use Rattle.run_io.proofs.LoadAnswers.{inputs_stopped}
use Rattle.run_io.proofs.inputs.read_inputs.Goals as goal

pub returns-in_err-scripts : goal.returns-in_err-scripts
returns-in_err-scripts g c =
    let contents = c.args.contents.now in
    let e = c.in_err-scripts.field-0.0 in
    let p = err_from_is_err_and c.from_residual-in_err-scripts.result c.from_residual-in_err-scripts.ensures.1 in
    let lawful : schema_answer (schema_of (reading contents.schema.items)) ≡ Ok c.in_ok-schema.schema = rw c.deref.ensures.value at c.in_ok-schema.ensures in
    let stops : IsReadingResult (scripts_in 1 (bytes_in contents.clients.items)) (Err e) = subst (λ (bytes : List (Vec ℕ Global)). IsReadingResult (scripts_in 1 (bytes_in bytes)) (Err e)) c.deref-2.ensures.value c.in_err-scripts.ensures in
    rw (p.1, p.2) (inputs_stopped contents.schema.items (bytes_in contents.clients.items) c.in_ok-schema.schema e lawful stops)
