-- The bytes of the output are checked, or it is told why there are none.
use Rattle.std.proofs.Common.{◌≤◌, sym, subst, ℕ, List, length, Err}
use Rattle.std.proofs.lemmas.Result.{IfOk-weaker}
use Rattle.mdb_datum.specs.Bytes.{Bytes}
use Rattle.memdb.specs.inner.Checking.{AnswersOutput, TellsOf, judged, unread}
use Rattle.memdb.specs.inner.CommandOf.{checked_of}
use Rattle.run_io.specs.Observed.{observed, output_limit}
use Rattle.run_io.specs.OneFile.{LoadsFile, WasRead, bytes_of}
use Rattle.run_io.specs.Told.{TellsOutputError}
use Rattle.run_io.specs.declared.output.Output.{Output}
use Rattle.memdb.proofs.CheckedOutput.{may_check}
use Rattle.memdb.proofs.checking.output_checked.Goals as goal

pub verdict_on-requires : goal.verdict_on-requires
verdict_on-requires g c =
    let files = c.args.named.now in
    let bytes = c.in-Ok.bytes in
    record { checked = may_check files.inputs.clients c.args.inputs.now.scripts c.deref.result.now c.requires.inputs files.inputs.some files.inputs.few files.plain (subst (λ (bs : List ℕ). length bs ≤ output_limit) (sym c.deref.ensures.value) c.in-Ok.ensures.loads.whole.fits) }

pub returns-in-Ok-clause-answer : goal.returns-in-Ok-clause-answer
returns-in-Ok-clause-answer g c =
    let files = checked_of c.args.named.now in
    let inputs = c.args.inputs.now in
    let bytes = c.in-Ok.bytes in
    let seen = observed (g.F.Files.told c.args.files.now) (g.F.Files.reliable c.args.files.now) (g.F.Files.faults c.args.files.now) (g.F.Files.faults c.load_output.new.files) in
    let read : WasRead output_limit seen files.output bytes.items = c.in-Ok.ensures.loads in
    let says : Output → Type 0 = λ o. TellsOf inputs files.inputs.clients c.deref.result.now o.status o.text.items in
    let answer : Output → Type 0 = λ o. AnswersOutput inputs files seen o.status o.text.items in
    IfOk-weaker c.verdict_on.result says answer (λ o said. judged c.deref.result.now (subst (λ (bs : Bytes). WasRead output_limit seen files.output bs) (sym c.deref.ensures.value) read) said) c.verdict_on.ensures

pub returns-in-Err-clause-answer : goal.returns-in-Err-clause-answer
returns-in-Err-clause-answer g c =
    let files = checked_of c.args.named.now in
    let e = c.in-Err.error in
    let seen = observed (g.F.Files.told c.args.files.now) (g.F.Files.reliable c.args.files.now) (g.F.Files.faults c.args.files.now) (g.F.Files.faults c.load_output.new.files) in
    let loads : LoadsFile bytes_of output_limit seen files.output (Err e) = c.in-Err.ensures.loads in
    let says : Output → Type 0 = λ o. TellsOutputError files.output e o.status o.text.items in
    let answer : Output → Type 0 = λ o. AnswersOutput c.args.inputs.now files seen o.status o.text.items in
    IfOk-weaker c.output_refusal.result says answer (λ o said. unread e loads said) c.output_refusal.ensures
