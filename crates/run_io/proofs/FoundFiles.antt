-- Where files are told, they are found to be lawful, or to call for a refusal.
use Rattle.std.proofs.Common.{◌≡◌, ◌+◌, ◌≤◌, ◌<◌, arith, refl, ap, inl, inr, ℕ, zero, suc, Bool, true, false, List, [], ◌∷◌, length, Option, Some, None, Ok, Err}
use Rattle.std.proofs.lemmas.Bool.Decides.{nat_tests}
use Rattle.std.specs.Prelude.{IsSome, Result, nat_le}
use Rattle.client_script.specs.Refusal.{ScriptRefusal, script_error}
use Rattle.client_script.specs.Script.{script_in}
use Rattle.client_script.specs.declared.line.Line.{Line}
use Rattle.client_script.specs.declared.script_error.ScriptError.{ScriptError}
use Rattle.mdb_datum.specs.Bytes.{Bytes}
use Rattle.mdb_datum.specs.Reading.{reading}
use Rattle.mdb_ports.specs.Files.{Contents}
use Rattle.mdb_schema.specs.Broken.{Broken}
use Rattle.mdb_schema.specs.Reading.{schema_of}
use Rattle.mdb_schema.specs.Schema.{DbSchema}
use Rattle.mdb_schema.specs.Tests.{◌>>=◌}
use Rattle.run_io.specs.Causes.{HasNoExcuse}
use Rattle.run_io.specs.Inputs.{inputs_in, schema_answer, schema_error, script_answer, scripts_in}
use Rattle.run_io.specs.Named.{Named, in_order}
use Rattle.run_io.specs.Observed.{Observed, AreWhole, IsAbsent, IsReached, IsTooLarge, IsWhole, file_limit}
use Rattle.run_io.specs.RefusalCauses.{CallsForRefusal, AreLawful, absent, too_large, broken, broken_script}
use Rattle.run_io.specs.Statuses.{IsOneOf}
use Rattle.run_io.specs.declared.inputs.Inputs.{Inputs}
use Rattle.run_io.specs.declared.load_error.LoadError.{LoadError}
use Rattle.run_io.specs.declared.load_error.LoadError.TheVariants.{Schema, Script}
use Rattle.run_io.proofs.OneAnswer.{Loaded}

-- ---- what is found of the files

-- all are whole, or one that is reached isn't there or is too large
data Found (told : Option Contents) (names : List Bytes) : Type 0 where
  all_whole : (contents : List Bytes) → AreWhole told names contents → Found told names
  one_gone : (file : ℕ) (name : Bytes) → IsReached told names file name → IsAbsent told name → Found told names
  one_large : (file : ℕ) (name : Bytes) → IsReached told names file name → IsTooLarge told name → Found told names

short_enough : (n m : ℕ) → nat_le n m ≡ true → n ≤ m
short_enough n m e = grind (arith, nat_tests)

exceeds : (n m : ℕ) → nat_le n m ≡ false → m < n
exceeds n m e = grind (arith, nat_tests)

look : (contents : Contents) (names : List Bytes) → Found (Some contents) names
look contents [] = all_whole [] tt
look contents (n ∷ ns) = by_first (contents n) refl (look contents ns)
  where
    by_rest : (bytes : Bytes) → IsWhole (Some contents) n bytes → Found (Some contents) ns → Found (Some contents) (n ∷ ns)
    by_rest bytes w (all_whole bs ws) = all_whole (bytes ∷ bs) (w, ws)
    by_rest bytes w (one_gone file name r gone) = one_gone (suc file) name (bytes, w, r) gone
    by_rest bytes w (one_large file name r large) = one_large (suc file) name (bytes, w, r) large

    by_length : (bytes : Bytes) (b : Bool) → contents n ≡ Some bytes → nat_le (length bytes) file_limit ≡ b → Found (Some contents) ns → Found (Some contents) (n ∷ ns)
    by_length bytes true e h rest = by_rest bytes (record { there = e; fits = short_enough (length bytes) file_limit h }) rest
    by_length bytes false e h rest = one_large zero n refl (record { bytes = bytes; there = e; longer = exceeds (length bytes) file_limit h })

    by_first : (o : Option Bytes) → contents n ≡ o → Found (Some contents) ns → Found (Some contents) (n ∷ ns)
    by_first None e rest = one_gone zero n refl (record { files = contents; tells = refl; none = e })
    by_first (Some bytes) e rest = by_length bytes (nat_le (length bytes) file_limit) e refl rest

look_told : (told : Option Contents) → IsSome told → (names : List Bytes) → Found told names
look_told None h names = cc
look_told (Some contents) h names = look contents names

-- ---- what bytes come to

data Scripts (r : Result (List (List Line)) LoadError) : Type 0 where
  all_lawful : (ss : List (List Line)) → r ≡ Ok ss → Scripts r
  one_breaks : (client : ℕ) (e : ScriptError) → r ≡ Err (Script client e) → Scripts r

scripts_found : (client : ℕ) (files : List Bytes) → Scripts (scripts_in client files)
scripts_found client [] = all_lawful [] refl
scripts_found client (bytes ∷ rest) = by_first (script_in bytes) (scripts_found (client + 1) rest)
  where
    by_rest : (script : List Line) (r : Result (List (List Line)) LoadError) → Scripts r → Scripts (r >>= (λ ss. Ok (script ∷ ss)))
    by_rest script r (all_lawful ss e) = all_lawful (script ∷ ss) (ap (λ (x : Result (List (List Line)) LoadError). x >>= (λ ss. Ok (script ∷ ss))) e)
    by_rest script r (one_breaks k why e) = one_breaks k why (ap (λ (x : Result (List (List Line)) LoadError). x >>= (λ ss. Ok (script ∷ ss))) e)

    by_first : (r : Result (List Line) ScriptRefusal) → Scripts (scripts_in (client + 1) rest) → Scripts (script_answer client r >>= (λ script. scripts_in (client + 1) rest >>= (λ ss. Ok (script ∷ ss))))
    by_first (Ok lines) h = by_rest lines (scripts_in (client + 1) rest) h
    by_first (Err why) h = one_breaks client (script_error why) refl

data Comes (r : Loaded) : Type 0 where
  to_inputs : (inputs : Inputs) → r ≡ Ok inputs → Comes r
  to_rule : (rule : Broken) → r ≡ Err (Schema (schema_error rule)) → Comes r
  to_script : (client : ℕ) (e : ScriptError) → r ≡ Err (Script client e) → Comes r

abbrev inputs_of : DbSchema → List (List Line) → Loaded
inputs_of tables scripts = Ok (record { schema = tables; scripts = scripts })

inputs_found : (schema : Bytes) (clients : List Bytes) → Comes (inputs_in schema clients)
inputs_found schema clients = by_schema (schema_of (reading schema)) (scripts_found 1 clients)
  where
    by_scripts : (tables : DbSchema) (r : Result (List (List Line)) LoadError) → Scripts r → Comes (r >>= inputs_of tables)
    by_scripts tables r (all_lawful ss e) = to_inputs (record { schema = tables; scripts = ss }) (ap (λ (x : Result (List (List Line)) LoadError). x >>= inputs_of tables) e)
    by_scripts tables r (one_breaks k why e) = to_script k why (ap (λ (x : Result (List (List Line)) LoadError). x >>= inputs_of tables) e)

    by_schema : (r : Result DbSchema Broken) → Scripts (scripts_in 1 clients) → Comes (schema_answer r >>= (λ tables. scripts_in 1 clients >>= inputs_of tables))
    by_schema (Ok tables) h = by_scripts tables (scripts_in 1 clients) h
    by_schema (Err rule) h = to_rule rule refl

-- ---- what is called for

-- a command's files call for one of the refusals, or are lawful
pub data Called (command : Option Named) (seen : Observed) : Type 0 where
  for_refusal : (status : ℕ) → IsOneOf (2 ∷ 3 ∷ 5 ∷ 7 ∷ []) status → CallsForRefusal command seen status → Called command seen
  for_inputs : AreLawful command seen → Called command seen

pub called_where_told : (command : Option Named) (seen : Observed) (named : Named) → command ≡ Some named → HasNoExcuse seen → Called command seen
called_where_told command seen named run plain = by_files (look_told seen.told plain.tells (in_order named))
  where
    by_bytes : (schema : Bytes) (clients : List Bytes) → AreWhole seen.told (in_order named) (schema ∷ clients) → Comes (inputs_in schema clients) → Called command seen
    by_bytes schema clients w (to_inputs inputs e) =
        for_inputs (record { named = named; inputs = inputs; finds = record { is_named = run; schema = schema; clients = clients; whole = w; comes = e }; no_excuse = plain })
    by_bytes schema clients w (to_rule rule e) =
        for_refusal 2 (inl refl) (broken refl named rule (record { is_named = run; schema = schema; clients = clients; whole = w; comes = e }) plain)
    by_bytes schema clients w (to_script client why e) =
        for_refusal 3 (inr (inl refl)) (broken_script refl named client why (record { is_named = run; schema = schema; clients = clients; whole = w; comes = e }) plain)

    by_files : Found seen.told (in_order named) → Called command seen
    by_files (all_whole [] w) = absurd w
    by_files (all_whole (schema ∷ clients) w) = by_bytes schema clients w (inputs_found schema clients)
    by_files (one_gone file name r gone) =
        for_refusal 5 (inr (inr (inl refl))) (absent refl named name (record { is_named = run; file = file; reached = r }) gone)
    by_files (one_large file name r large) =
        for_refusal 7 (inr (inr (inr (inl refl)))) (too_large refl named name (record { is_named = run; file = file; reached = r }) large plain)
