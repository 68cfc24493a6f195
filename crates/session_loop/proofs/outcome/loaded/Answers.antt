-- What was loaded is answered, and so is an error.
use Rattle.std.proofs.Common.{◌≡◌, ◌∙◌, ◌≤◌, sym, ap, subst, inl, inr, ℕ, List, length, Some, Ok, Err}
use Rattle.std.specs.Prelude.{◌⊎◌}
use Rattle.client_script.specs.Legal.{Legal}
use Rattle.client_script.specs.Stuck.{Stuck}
use Rattle.std.proofs.lemmas.Result.{IfOk-weaker}
use Rattle.mdb_datum.specs.Bytes.{Bytes}
use Rattle.run_io.specs.Loads.{Loads}
use Rattle.run_io.specs.Named.{in_order}
use Rattle.run_io.specs.NamedOf.{named_of}
use Rattle.run_io.specs.Observed.{observed}
use Rattle.run_io.specs.Told.{TellsError}
use Rattle.run_io.specs.declared.output.Output.{Output}
use Rattle.run_io.proofs.LoadRefusals.{inputs_answered, error_refused, names_file, scripts_loaded}
use Rattle.session_loop.specs.Outcome.{IsAnswer, done, halted, refused}
use Rattle.session_loop.specs.Words.{files_named}
use Rattle.session_loop.specs.inner.Endings.{IsDoneOrStuck}
use Rattle.session_loop.proofs.outcome.loaded.Goals as goal

pub output_of-requires-clause-named : goal.output_of-requires-clause-named
output_of-requires-clause-named g c =
    let named = named_of c.args.named.now in
    let inputs = c.in-Ok.inputs in
    let seen = observed (g.F.Files.told c.args.files.now) (g.F.Files.reliable c.args.files.now) (g.F.Files.faults c.args.files.now) (g.F.Files.faults c.load.new.files) in
    let loads : Loads seen (in_order named) (Ok inputs) = c.in-Ok.ensures.loads in
    ap length c.names.ensures.names ∙ sym (scripts_loaded seen named inputs loads)

pub output_of-requires-clause-few : goal.output_of-requires-clause-few
output_of-requires-clause-few g c = subst (λ (ns : List Bytes). length ns ≤ 63) (sym c.names.ensures.names) c.requires

pub refusal_of-requires : goal.refusal_of-requires
refusal_of-requires g c =
    let named = named_of c.args.named.now in
    let e = c.in-Err.error in
    let seen = observed (g.F.Files.told c.args.files.now) (g.F.Files.reliable c.args.files.now) (g.F.Files.faults c.args.files.now) (g.F.Files.faults c.load.new.files) in
    let loads : Loads seen (in_order named) (Err e) = c.in-Err.ensures.loads in
    names_file seen (in_order named) e loads

pub returns-in-Ok-clause-answer : goal.returns-in-Ok-clause-answer
returns-in-Ok-clause-answer g c =
    let named = named_of c.args.named.now in
    let inputs = c.in-Ok.inputs in
    let seen = observed (g.F.Files.told c.args.files.now) (g.F.Files.reliable c.args.files.now) (g.F.Files.faults c.args.files.now) (g.F.Files.faults c.load.new.files) in
    let loads : Loads seen (in_order named) (Ok inputs) = c.in-Ok.ensures.loads in
    let ends : Output → Type 0 = λ o. IsDoneOrStuck inputs.schema c.names.result.now inputs.scripts o.status o.text.items in
    let answer : Output → Type 0 = λ o. (words : List Bytes) → files_named words ≡ Some named → IsAnswer words seen o.status o.text.items in
    let of_names : (o : Output) → ends o → IsDoneOrStuck inputs.schema named.clients inputs.scripts o.status o.text.items = λ o d. subst (λ (ns : List Bytes). IsDoneOrStuck inputs.schema ns inputs.scripts o.status o.text.items) c.names.ensures.names d in
    let finished : (words : List Bytes) (status : ℕ) (text : Bytes) → files_named words ≡ Some named → (status ≡ 0) × Legal inputs.schema named.clients inputs.scripts text → IsAnswer words seen status text = λ words status text is d. done d.0 (inputs_answered (files_named words) seen named Legal inputs text is loads d.1) in
    let stopped : (words : List Bytes) (status : ℕ) (text : Bytes) → files_named words ≡ Some named → (status ≡ 9) × Stuck inputs.schema named.clients inputs.scripts text → IsAnswer words seen status text = λ words status text is d. halted d.0 (inputs_answered (files_named words) seen named Stuck inputs text is loads d.1) in
    IfOk-weaker c.output_of.result ends answer (λ o d words is. either (of_names o d) (finished words o.status o.text.items is) (stopped words o.status o.text.items is)) c.output_of.ensures
  where
    either : {A B C : Type 0} → A ⊎ B → (A → C) → (B → C) → C
    either (inl a) f h = f a
    either (inr b) f h = h b

pub returns-in-Err-clause-answer : goal.returns-in-Err-clause-answer
returns-in-Err-clause-answer g c =
    let named = named_of c.args.named.now in
    let e = c.in-Err.error in
    let seen = observed (g.F.Files.told c.args.files.now) (g.F.Files.reliable c.args.files.now) (g.F.Files.faults c.args.files.now) (g.F.Files.faults c.load.new.files) in
    let loads : Loads seen (in_order named) (Err e) = c.in-Err.ensures.loads in
    let says : Output → Type 0 = λ o. TellsError (in_order named) e o.status o.text.items in
    let answer : Output → Type 0 = λ o. (words : List Bytes) → files_named words ≡ Some named → IsAnswer words seen o.status o.text.items in
    IfOk-weaker c.refusal_of.result says answer (λ o said words is. refused (error_refused (files_named words) seen named e o.status o.text.items is loads said)) c.refusal_of.ensures
