-- What was loaded is answered, and so is an error.
use Rattle.std.proofs.Common.{◌≡◌, ◌∙◌, sym, ap, subst, List, length, IfOk, Some, Ok, Err}
use Rattle.std.specs.Prelude.{Result}
use Rattle.client_script.specs.Legal.{Legal}
use Rattle.std.proofs.lemmas.Result.{IfOk-weaker}
use Rattle.mdb_datum.specs.Bytes.{Bytes}
use Rattle.memdb.specs.Outcome.{IsAnswer, done, refused}
use Rattle.memdb.specs.Words.{files_named, run_named}
use Rattle.memdb.proofs.CheckedOutput.{run_files}
use Rattle.run_io.specs.Loads.{Loads}
use Rattle.run_io.specs.Named.{in_order}
use Rattle.run_io.specs.NamedOf.{named_of}
use Rattle.run_io.specs.Observed.{observed}
use Rattle.run_io.specs.Told.{TellsError}
use Rattle.run_io.specs.declared.output.Output.{Output}
use Rattle.run_io.proofs.LoadRefusals.{inputs_answered, error_refused, names_file, scripts_loaded}
use Rattle.memdb.proofs.outcome.loaded.Goals as goal

pub output_of-requires-clause-named : goal.output_of-requires-clause-named
output_of-requires-clause-named g c κs within =
    let named = named_of c.args.named.now in
    let inputs = c.in-Ok.inputs in
    let seen = observed (g.F.Files.told c.args.files.now) (g.F.Files.reliable c.args.files.now) (g.F.Files.faults c.args.files.now) (g.F.Files.faults c.load.new.files) in
    let loads : Loads seen (in_order named) (Ok inputs) = c.in-Ok.ensures.loads in
    ap length c.names.ensures.names ∙ sym (scripts_loaded seen named inputs loads)

pub refusal_of-requires : goal.refusal_of-requires
refusal_of-requires g c =
    let named = named_of c.args.named.now in
    let e = c.in-Err.error in
    let seen = observed (g.F.Files.told c.args.files.now) (g.F.Files.reliable c.args.files.now) (g.F.Files.faults c.args.files.now) (g.F.Files.faults c.load.new.files) in
    let loads : Loads seen (in_order named) (Err e) = c.in-Err.ensures.loads in
    names_file seen (in_order named) e loads

pub returns-in-Ok-clause-answer : goal.returns-in-Ok-clause-answer
returns-in-Ok-clause-answer g c =
    let named = named_of c.args.named.now in
    let inputs = c.in-Ok.inputs in
    let seen = observed (g.F.Files.told c.args.files.now) (g.F.Files.reliable c.args.files.now) (g.F.Files.faults c.args.files.now) (g.F.Files.faults c.load.new.files) in
    let loads : Loads seen (in_order named) (Ok inputs) = c.in-Ok.ensures.loads in
    let zero : Output → Type 0 = λ o. o.status ≡ 0 in
    let legal : Output → Type 0 = λ o. Legal inputs.schema c.names.result.now inputs.scripts o.text.items in
    let ends : Output → Type 0 = λ o. zero o × legal o in
    let answer : Output → Type 0 = λ o. (words : List Bytes) → run_named words ≡ Some named → IsAnswer words seen o.status o.text.items in
    let of_names : (o : Output) → ends o → Legal inputs.schema named.clients inputs.scripts o.text.items = λ o d. subst (λ (ns : List Bytes). Legal inputs.schema ns inputs.scripts o.text.items) c.names.ensures.names d.1 in
    IfOk-weaker c.output_of.result ends answer (λ o d words is. done d.0 (inputs_answered (run_named words) seen named Legal inputs o.text.items is loads (of_names o d))) (both zero legal c.output_of.result c.output_of.ensures.status c.output_of.ensures.legal)
  where
    both : {A E : Type 0} (P Q : A → Type 0) (r : Result A E) → IfOk r P → IfOk r Q → IfOk r (λ a. P a × Q a)
    both P Q (Ok a) p q = (p, q)
    both P Q (Err e) p q = tt

pub returns-in-Err-clause-answer : goal.returns-in-Err-clause-answer
returns-in-Err-clause-answer g c =
    let named = named_of c.args.named.now in
    let e = c.in-Err.error in
    let seen = observed (g.F.Files.told c.args.files.now) (g.F.Files.reliable c.args.files.now) (g.F.Files.faults c.args.files.now) (g.F.Files.faults c.load.new.files) in
    let loads : Loads seen (in_order named) (Err e) = c.in-Err.ensures.loads in
    let says : Output → Type 0 = λ o. TellsError (in_order named) e o.status o.text.items in
    let answer : Output → Type 0 = λ o. (words : List Bytes) → run_named words ≡ Some named → IsAnswer words seen o.status o.text.items in
    IfOk-weaker c.refusal_of.result says answer (λ o said words is. refused (error_refused (files_named words) seen named e o.status o.text.items (run_files words named is) loads said)) c.refusal_of.ensures
