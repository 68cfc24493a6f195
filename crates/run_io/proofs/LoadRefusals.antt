-- What a load comes to is what is answered to a command's files.
use Rattle.std.proofs.Common.{◌≡◌, ◌∙◌, sym, ap, arith, refl, ℕ, zero, suc, ◌+◌, ◌<◌, List, [], ◌∷◌, Some, Ok, Err, codes, length, slice_get}
use Rattle.std.specs.Prelude.{Option, Result, unwrap_or}
use Rattle.client_script.specs.Script.{script_in}
use Rattle.client_script.specs.declared.line.Line.{Line}
use Rattle.mdb_datum.specs.Bytes.{Bytes}
use Rattle.mdb_datum.specs.Reading.{reading}
use Rattle.mdb_ports.specs.Files.{Contents}
use Rattle.mdb_schema.specs.Reading.{schema_of}
use Rattle.mdb_schema.specs.Schema.{DbSchema}
use Rattle.mdb_schema.specs.Tests.{◌>>=◌}
use Rattle.mdb_schema.specs.declared.error.SchemaError.TheVariants as schema_errors
use Rattle.run_io.specs.Inputs.{script_answer, scripts_in, schema_answer}
use Rattle.run_io.specs.Loads.{Loads}
use Rattle.run_io.specs.Named.{Named, in_order}
use Rattle.run_io.specs.Observed.{Observed, AreWhole}
use Rattle.run_io.specs.RefusalTexts.{name_line}
use Rattle.run_io.specs.Refusals.{Answered, IsRefused, broken_schema, broken_script, cannot_read, too_large}
use Rattle.run_io.specs.Told.{NamesFile, name_at, TellsError}
use Rattle.run_io.specs.declared.inputs.Inputs.{Inputs}
use Rattle.run_io.specs.declared.load_error.LoadError.{LoadError}
use Rattle.run_io.specs.declared.load_error.LoadError.TheVariants.{Memory, Read, TooLarge, Schema, Script}
use Rattle.run_io.proofs.InOrder.{reached_there}

-- what holds of inputs that were loaded, and of a text, is an answer
pub inputs_answered : (command : Option Named) (seen : Observed) (named : Named) (P : DbSchema → List Bytes → List (List Line) → Bytes → Type 0) (inputs : Inputs) (text : Bytes) →
    command ≡ Some named → Loads seen (in_order named) (Ok inputs) → P inputs.schema named.clients inputs.scripts text → Answered command seen P text
inputs_answered command seen named P inputs text is loads holds =
    record { named = named; inputs = inputs; read = record { is_named = is; reads = loads }; holds = holds }

-- the name that is told is that of the file
named_line : (what : Bytes) (names : List Bytes) (file : ℕ) (name text : Bytes) → slice_get names file ≡ Some name → text ≡ name_line what (name_at names file) → text ≡ name_line what name
named_line what names file name text there says = says ∙ ap (λ (o : Option Bytes). name_line what (unwrap_or o [])) there

-- and an error is a refusal, by what is told of it
pub error_refused : (command : Option Named) (seen : Observed) (named : Named) (e : LoadError) (status : ℕ) (text : Bytes) →
    command ≡ Some named → Loads seen (in_order named) (Err e) → TellsError (in_order named) e status text → IsRefused command seen status text
error_refused command seen named Memory status text is loads said = absurd said
error_refused command seen named (Read file) status text is loads said =
    cannot_read said.0 (record { named = named; is_named = is; file = file; cause = loads; says = named_line (codes "cannot read ") (in_order named) file loads.name text (reached_there seen.told (in_order named) file loads.name loads.reached) said.1 })
error_refused command seen named (TooLarge file) status text is loads said =
    too_large said.0 (record { named = named; is_named = is; file = file; cause = loads; says = named_line (codes "too large ") (in_order named) file loads.name text (reached_there seen.told (in_order named) file loads.name loads.reached) said.1 })
error_refused command seen named (Schema schema_errors.Memory) status text is loads said = absurd said
error_refused command seen named (Schema (schema_errors.Broken r t i)) status text is loads said =
    broken_schema said.0 (record { named = named; rule = record { rule = r; table = t; index = i }; read = record { is_named = is; reads = loads }; says = said.1 })
error_refused command seen named (Script client e) status text is loads said =
    broken_script said.0 (record { named = named; client = client; rule = e; read = record { is_named = is; reads = loads }; says = said.1 })

-- ---- the numbers of files and scripts

got_within : {A : Type 0} (xs : List A) (i : ℕ) (x : A) → slice_get xs i ≡ Some x → i < length xs
got_within [] i x e = cc
got_within (y ∷ ys) zero x e = omega arith
got_within (y ∷ ys) (suc i) x e = let h = got_within ys i x e in omega arith

-- an error names a file that there is
pub names_file : (seen : Observed) (names : List Bytes) (e : LoadError) → Loads seen names (Err e) → NamesFile (length names) e
names_file seen names Memory loads = tt
names_file seen names (Read file) loads = got_within names file loads.name (reached_there seen.told names file loads.name loads.reached)
names_file seen names (TooLarge file) loads = got_within names file loads.name (reached_there seen.told names file loads.name loads.reached)
names_file seen names (Schema e) loads = tt
names_file seen names (Script client e) loads = tt

-- as many scripts as clients
as_many_scripts : (client : ℕ) (clients : List Bytes) (scripts : List (List Line)) → scripts_in client clients ≡ Ok scripts → length scripts ≡ length clients
as_many_scripts client [] scripts e = let same : [] ≡ scripts = cc in ap length (sym same)
as_many_scripts client (bytes ∷ rest) scripts e = by_first (λ ss g. as_many_scripts (client + 1) rest ss g) (script_answer client (script_in bytes)) e
  where
    by_rest : (script : List Line) (r : Result (List (List Line)) LoadError) → ((ss : List (List Line)) → r ≡ Ok ss → length ss ≡ length rest) → (r >>= (λ ss. Ok (script ∷ ss))) ≡ Ok scripts → length scripts ≡ suc (length rest)
    by_rest script (Ok ss) same h = let are : script ∷ ss ≡ scripts = cc in ap length (sym are) ∙ ap suc (same ss refl)
    by_rest script (Err x) same h = cc

    by_first : ((ss : List (List Line)) → scripts_in (client + 1) rest ≡ Ok ss → length ss ≡ length rest) → (r : Result (List Line) LoadError) → (r >>= (λ script. scripts_in (client + 1) rest >>= (λ ss. Ok (script ∷ ss)))) ≡ Ok scripts → length scripts ≡ suc (length rest)
    by_first same (Ok script) h = by_rest script (scripts_in (client + 1) rest) same h
    by_first same (Err x) h = cc

as_many_files : (told : Option Contents) (names contents : List Bytes) → AreWhole told names contents → length names ≡ length contents
as_many_files told [] [] w = refl
as_many_files told [] (x ∷ xs) w = absurd w
as_many_files told (n ∷ ns) [] w = absurd w
as_many_files told (n ∷ ns) (x ∷ xs) w = ap suc (as_many_files told ns xs w.1)

abbrev scripts_of : Result Inputs LoadError → List (List Line)
scripts_of (Ok inputs) = inputs.scripts
scripts_of (Err e) = []

-- scripts were loaded as often as there are clients
pub scripts_loaded : (seen : Observed) (named : Named) (inputs : Inputs) → Loads seen (in_order named) (Ok inputs) → length inputs.scripts ≡ length named.clients
scripts_loaded seen named inputs loads = by_schema (schema_answer (schema_of (reading loads.schema))) loads.comes
  where
    files : suc (length named.clients) ≡ suc (length loads.clients)
    files = as_many_files seen.told (in_order named) (loads.schema ∷ loads.clients) loads.read.whole

    by_scripts : (tables : DbSchema) (r : Result (List (List Line)) LoadError) → scripts_in 1 loads.clients ≡ r → (r >>= (λ ss. let found : Result Inputs LoadError = Ok (record { schema = tables; scripts = ss }) in found)) ≡ Ok inputs → length inputs.scripts ≡ length named.clients
    by_scripts tables (Ok ss) same h =
        let are : ss ≡ inputs.scripts = ap (λ (r : Result Inputs LoadError). scripts_of r) h in
        ap length (sym are) ∙ as_many_scripts 1 loads.clients ss same ∙ omega (arith, files)
    by_scripts tables (Err x) same h = cc

    by_schema : (r : Result DbSchema LoadError) → (r >>= (λ tables. scripts_in 1 loads.clients >>= (λ ss. let found : Result Inputs LoadError = Ok (record { schema = tables; scripts = ss }) in found))) ≡ Ok inputs → length inputs.scripts ≡ length named.clients
    by_schema (Ok tables) h = by_scripts tables (scripts_in 1 loads.clients) refl h
    by_schema (Err x) h = cc
