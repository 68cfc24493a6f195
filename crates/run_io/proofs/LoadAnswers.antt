-- What the reading of files and the reading of their bytes come to is what a load is answered.
use Rattle.std.proofs.Common.{◌≡◌, ◌∙◌, sym, ap, subst, zero-add, ℕ, List, ◌∷◌, Ok, Err}
use Rattle.std.specs.Prelude.{Result}
use Rattle.client_script.specs.declared.line.Line.{Line}
use Rattle.mdb_datum.specs.Bytes.{Bytes}
use Rattle.mdb_datum.specs.Reading.{reading}
use Rattle.mdb_schema.specs.Reading.{schema_of}
use Rattle.mdb_schema.specs.Schema.{DbSchema}
use Rattle.mdb_schema.specs.Tests.{◌>>=◌}
use Rattle.run_io.specs.Inputs.{schema_answer, scripts_in, inputs_in}
use Rattle.run_io.specs.Loads.{Loads, IsUnread, IsPastLimit}
use Rattle.run_io.specs.Observed.{Observed, AreWhole}
use Rattle.run_io.specs.declared.inputs.Inputs.{Inputs}
use Rattle.run_io.specs.declared.load_error.LoadError.{LoadError}
use Rattle.run_io.specs.declared.load_error.LoadError.TheVariants.{Memory, Read, TooLarge, Schema, Script}
use Rattle.run_io.specs.inner.ReadingResult.{IsReadingResult}
use Rattle.run_io.specs.inner.Reading.{Reads}
use Rattle.run_io.proofs.ScriptsInOrder.{answers_stopped, answers_as}

-- a script that breaks a rule is the answer behind a lawful schema
pub inputs_stopped : (schema : Bytes) (clients : List Bytes) (tables : DbSchema) (e : LoadError) → schema_answer (schema_of (reading schema)) ≡ Ok tables → IsReadingResult (scripts_in 1 clients) (Err e) → IsReadingResult (inputs_in schema clients) (Err e)
inputs_stopped schema clients tables e lawful h =
    let next : DbSchema → List (List Line) → Result Inputs LoadError = λ t ss. Ok (record { schema = t; scripts = ss }) in
    let behind : inputs_in schema clients ≡ (scripts_in 1 clients >>= next tables) = ap (λ (r : Result DbSchema LoadError). r >>= (λ t. scripts_in 1 clients >>= next t)) lawful in
    answers_as (inputs_in schema clients) (scripts_in 1 clients >>= next tables) (Err e) behind (answers_stopped (scripts_in 1 clients) (next tables) e h)

-- where all files were read, what their bytes read as is the answer
pub read_loads : (seen : Observed) (names : List Bytes) (schema : Bytes) (clients : List Bytes) (r : Result Inputs LoadError) →
    seen.now ≡ seen.before → AreWhole seen.told names (schema ∷ clients) → IsReadingResult (inputs_in schema clients) r → Loads seen names r
read_loads seen names schema clients (Ok inputs) quiet whole h = record { schema = schema; clients = clients; read = record { whole = whole; no_fault = quiet }; comes = h }
read_loads seen names schema clients (Err Memory) quiet whole h = quiet
read_loads seen names schema clients (Err (Read file)) quiet whole h = absurd h
read_loads seen names schema clients (Err (TooLarge file)) quiet whole h = absurd h
read_loads seen names schema clients (Err (Schema e)) quiet whole h = record { schema = schema; clients = clients; read = record { whole = whole; no_fault = quiet }; comes = h }
read_loads seen names schema clients (Err (Script client e)) quiet whole h = record { schema = schema; clients = clients; read = record { whole = whole; no_fault = quiet }; comes = h }

-- and where one wasn't, it is told by its number
pub unread_loads : {T : Type 0} (contents : T → List Bytes) (seen : Observed) (names : List Bytes) (e : LoadError) → Reads contents seen 0 names (Err e) → Loads seen names (Err e)
unread_loads contents seen names Memory h = h
unread_loads contents seen names (Read file) h = subst (λ (n : ℕ). IsUnread seen names n) (sym (h.1 ∙ zero-add h.0)) h.2
unread_loads contents seen names (TooLarge file) h = subst (λ (n : ℕ). IsPastLimit seen names n) (sym (h.1 ∙ zero-add h.0)) h.2
unread_loads contents seen names (Schema e) h = absurd h
unread_loads contents seen names (Script client e) h = absurd h
