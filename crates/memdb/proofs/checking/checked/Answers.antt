-- What was loaded is checked, and what wasn't is refused.
use Rattle.std.proofs.Common.{◌≡◌, List, Some, None, Ok, Err}
use Rattle.std.proofs.lemmas.Result.{IfOk-weaker}
use Rattle.mdb_datum.specs.Bytes.{Bytes}
use Rattle.memdb.specs.Outcome.{IsAnswer, refused}
use Rattle.memdb.specs.Words.{check_named, files_named, run_named}
use Rattle.memdb.specs.inner.Checking.{AnswersOutput}
use Rattle.memdb.specs.inner.CommandOf.{checked_of}
use Rattle.run_io.specs.Loads.{Loads}
use Rattle.run_io.specs.Named.{in_order}
use Rattle.run_io.specs.NamedOf.{named_of}
use Rattle.run_io.specs.Observed.{observed}
use Rattle.run_io.specs.Told.{TellsError}
use Rattle.run_io.specs.declared.output.Output.{Output}
use Rattle.run_io.proofs.LoadRefusals.{error_refused, names_file}
use Rattle.memdb.proofs.CheckedOutput.{check_files, inputs_loaded, output_answered}
use Rattle.memdb.proofs.checking.checked.Goals as goal

pub output_checked-requires : goal.output_checked-requires
output_checked-requires g c =
    let named = named_of c.args.named.now.inputs in
    let seen = observed (g.F.Files.told c.args.files.now) (g.F.Files.reliable c.args.files.now) (g.F.Files.faults c.args.files.now) (g.F.Files.faults c.load.new.files) in
    let loads : Loads seen (in_order named) (Ok c.in-Ok.inputs) = c.in-Ok.ensures.loads in
    record { inputs = inputs_loaded seen named c.in-Ok.inputs loads }

pub refusal_of-requires : goal.refusal_of-requires
refusal_of-requires g c =
    let named = named_of c.args.named.now.inputs in
    let e = c.in-Err.error in
    let seen = observed (g.F.Files.told c.args.files.now) (g.F.Files.reliable c.args.files.now) (g.F.Files.faults c.args.files.now) (g.F.Files.faults c.load.new.files) in
    let loads : Loads seen (in_order named) (Err e) = c.in-Err.ensures.loads in
    names_file seen (in_order named) e loads

pub returns-in-Ok-clause-answer : goal.returns-in-Ok-clause-answer
returns-in-Ok-clause-answer g c =
    let files = checked_of c.args.named.now in
    let told = g.F.Files.told c.args.files.now in
    let sure = g.F.Files.reliable c.args.files.now in
    let before = g.F.Files.faults c.args.files.now in
    let mid = g.F.Files.faults c.load.new.files in
    let now = g.F.Files.faults c.output_checked.new.files in
    let later = g.F.Files.told c.load.new.files in
    let surely = g.F.Files.reliable c.load.new.files in
    let loads : Loads (observed told sure before mid) (in_order files.inputs) (Ok c.in-Ok.inputs) = c.in-Ok.ensures.loads in
    let stays = c.in-Ok.ensures.stays in
    let says : Output → Type 0 = λ o. AnswersOutput c.in-Ok.inputs files (observed later surely mid now) o.status o.text.items in
    let answer : Output → Type 0 = λ o. (words : List Bytes) → run_named words ≡ None → check_named words ≡ Some files → IsAnswer words (observed told sure before now) o.status o.text.items in
    IfOk-weaker c.output_checked.result says answer (λ o said words none is. output_answered words files c.in-Ok.inputs told later sure surely before mid now o.status o.text.items is loads stays.same_files stays.same_reliance said) c.output_checked.ensures.answer

pub returns-in-Err-clause-answer : goal.returns-in-Err-clause-answer
returns-in-Err-clause-answer g c =
    let files = checked_of c.args.named.now in
    let e = c.in-Err.error in
    let seen = observed (g.F.Files.told c.args.files.now) (g.F.Files.reliable c.args.files.now) (g.F.Files.faults c.args.files.now) (g.F.Files.faults c.load.new.files) in
    let loads : Loads seen (in_order files.inputs) (Err e) = c.in-Err.ensures.loads in
    let says : Output → Type 0 = λ o. TellsError (in_order files.inputs) e o.status o.text.items in
    let answer : Output → Type 0 = λ o. (words : List Bytes) → run_named words ≡ None → check_named words ≡ Some files → IsAnswer words seen o.status o.text.items in
    IfOk-weaker c.refusal_of.result says answer (λ o said words none is. refused (error_refused (files_named words) seen files.inputs e o.status o.text.items (check_files words files none is) loads said)) c.refusal_of.ensures
