-- The check of an output: what is known of its inputs, and that what is answered is an answer.
use Rattle.std.proofs.Common.{arith, ◌≡◌, ◌≢◌, ◌∙◌, ◌+◌, ◌==◌, ◌≤◌, refl, sym, ap, ap₂, subst, ℕ, Bool, true, false, List, [], ◌∷◌, length, Option, Some, None, Ok, Err}
use Rattle.std.specs.Prelude.{All, Result}
use Rattle.std.specs.List.{list_all, list_any}
use Rattle.std.proofs.lemmas.Bool.{not-true, true≢false}
use Rattle.std.proofs.lemmas.List.Elements.{All-cons, All-nil}
use Rattle.std.proofs.lemmas.List.Folds.{list_any_at}
use Rattle.client_script.specs.Refusal.{ScriptRefusal}
use Rattle.client_script.specs.Script.{script_in}
use Rattle.client_script.specs.declared.line.Line.{Line}
use Rattle.mdb_datum.specs.Bytes.{Bytes}
use Rattle.mdb_datum.specs.Reading.{reading}
use Rattle.mdb_ports.specs.Files.{Contents}
use Rattle.mdb_schema.specs.Reading.{schema_of}
use Rattle.mdb_schema.specs.Schema.{DbSchema}
use Rattle.mdb_schema.specs.Tests.{◌>>=◌}
use Rattle.memdb.specs.CheckOutcome.{HasInputs, bad, cannot_read, legal, too_large}
use Rattle.memdb.specs.Outcome.{IsAnswer, checked}
use Rattle.memdb.specs.Words.{Checked, check_named, files_named, files_of, run_named}
use Rattle.memdb.specs.inner.Checking.{AnswersOutput, AreInputs, TellsVerdict, judged, unread}
use Rattle.memdb.proofs.PlainWords.{left, right}
use Rattle.run_check.specs.Checked.{HasNoFeed, IsChecked}
use Rattle.run_check.specs.Checked as check
use Rattle.run_check.specs.Verdicts.{IsVerdict}
use Rattle.run_check.specs.declared.verdict.Verdict.{Verdict}
use Rattle.run_check.specs.declared.verdict.Verdict.TheVariants as verdicts
use Rattle.run_io.specs.Inputs.{inputs_in, schema_answer, script_answer, scripts_in}
use Rattle.run_io.specs.Loads.{Loads}
use Rattle.run_io.specs.Named.{Named, in_order, may_name_a_file}
use Rattle.run_io.specs.Observed.{Observed, observed, output_limit}
use Rattle.run_io.specs.OneFile.{LoadsFile, WasRead, bytes_of}
use Rattle.run_io.specs.Told.{TellsOutputError}
use Rattle.run_io.specs.declared.inputs.Inputs.{Inputs}
use Rattle.run_io.specs.declared.load_error.LoadError.{LoadError}
use Rattle.run_io.specs.declared.output_error.OutputError.{OutputError}
use Rattle.run_io.specs.declared.output_error.OutputError.TheVariants as file_errors
use Rattle.run_io.proofs.LoadRefusals.{scripts_loaded}

-- ---- the inputs

-- a word that may name a file holds no line feed
no_feed : (word : Bytes) → may_name_a_file word ≡ true → HasNoFeed word
no_feed [] e = All-nil (λ (b : ℕ). b ≢ 10)
no_feed (b ∷ bs) e = λ k d within is.
    let none : list_any (λ c. c == 10) (b ∷ bs) ≡ false = not-true (list_any (λ c. c == 10) (b ∷ bs)) (right _ _ e) in
    let some : list_any (λ c. c == 10) (b ∷ bs) ≡ true = list_any_at (λ c. c == 10) (b ∷ bs) k d within (ap (λ c. c == 10) is) in
    true≢false (sym some ∙ none)

no_feeds : (words : List Bytes) → list_all may_name_a_file words ≡ true → All HasNoFeed words
no_feeds [] e = All-nil HasNoFeed
no_feeds (w ∷ ws) e = All-cons HasNoFeed w ws (no_feed w (left _ _ e)) (no_feeds ws (right (may_name_a_file w) _ e))

-- scripts that files read as were read
all_read : (client : ℕ) (files : List Bytes) (scripts : List (List Line)) → scripts_in client files ≡ Ok scripts → All check.IsRead scripts
all_read client [] scripts e = let same : [] ≡ scripts = cc in subst (λ (ss : List (List Line)). All check.IsRead ss) same (All-nil check.IsRead)
all_read client (bytes ∷ rest) scripts e = by_first (λ ss g. all_read (client + 1) rest ss g) (script_in bytes) refl e
  where
    by_rest : (script : List Line) → script_in bytes ≡ Ok script → (r : Result (List (List Line)) LoadError) → ((ss : List (List Line)) → r ≡ Ok ss → All check.IsRead ss) → (r >>= (λ ss. Ok (script ∷ ss))) ≡ Ok scripts → All check.IsRead scripts
    by_rest script is (Ok ss) read h =
        let are : script ∷ ss ≡ scripts = cc in
        subst (λ (xs : List (List Line)). All check.IsRead xs) are (All-cons check.IsRead script ss (bytes, is) (read ss refl))
    by_rest script is (Err x) read h = cc

    by_first : ((ss : List (List Line)) → scripts_in (client + 1) rest ≡ Ok ss → All check.IsRead ss) → (r : Result (List Line) ScriptRefusal) → script_in bytes ≡ r → (script_answer client r >>= (λ script. scripts_in (client + 1) rest >>= (λ ss. Ok (script ∷ ss)))) ≡ Ok scripts → All check.IsRead scripts
    by_first read (Ok script) is h = by_rest script is (scripts_in (client + 1) rest) read h
    by_first read (Err x) is h = cc

abbrev scripts_of : Result Inputs LoadError → List (List Line)
scripts_of (Ok inputs) = inputs.scripts
scripts_of (Err e) = []

inputs_read : (schema : Bytes) (clients : List Bytes) (inputs : Inputs) → inputs_in schema clients ≡ Ok inputs → All check.IsRead inputs.scripts
inputs_read schema clients inputs e = by_schema (schema_answer (schema_of (reading schema))) e
  where
    by_scripts : (tables : DbSchema) (r : Result (List (List Line)) LoadError) → scripts_in 1 clients ≡ r → (r >>= (λ ss. let found : Result Inputs LoadError = Ok (record { schema = tables; scripts = ss }) in found)) ≡ Ok inputs → All check.IsRead inputs.scripts
    by_scripts tables (Ok ss) same h =
        let are : ss ≡ inputs.scripts = ap (λ (r : Result Inputs LoadError). scripts_of r) h in
        subst (λ (xs : List (List Line)). All check.IsRead xs) are (all_read 1 clients ss same)
    by_scripts tables (Err x) same h = cc

    by_schema : (r : Result DbSchema LoadError) → (r >>= (λ tables. scripts_in 1 clients >>= (λ ss. let found : Result Inputs LoadError = Ok (record { schema = tables; scripts = ss }) in found))) ≡ Ok inputs → All check.IsRead inputs.scripts
    by_schema (Ok tables) h = by_scripts tables (scripts_in 1 clients) refl h
    by_schema (Err x) h = cc

pub inputs_loaded : (seen : Observed) (named : Named) (inputs : Inputs) → Loads seen (in_order named) (Ok inputs) → AreInputs named.clients inputs.scripts
inputs_loaded seen named inputs loads =
    record { named = sym (scripts_loaded seen named inputs loads); read = inputs_read loads.schema loads.clients inputs loads.comes }

-- and that is what a check asks for
pub may_check : (names : List Bytes) (scripts : List (List Line)) (out : Bytes) → AreInputs names scripts → 1 ≤ length names → length names ≤ 64
    → list_all may_name_a_file names ≡ true → length out ≤ output_limit → IsChecked names scripts out
may_check names scripts out known some few plain small = record {
  named = known.named;
  some = subst (λ (n : ℕ). 1 ≤ n) known.named some;
  few = subst (λ (n : ℕ). n ≤ 64) known.named few;
  words = no_feeds names plain;
  read = known.read;
  small = omega (arith, small);
}

-- ---- the answer

pub check_files : (words : List Bytes) (files : Checked) → run_named words ≡ None → check_named words ≡ Some files → files_named words ≡ Some files.inputs
check_files words files none is = ap₂ files_of none is

pub run_files : (words : List Bytes) (named : Named) → run_named words ≡ Some named → files_named words ≡ Some named
run_files words named is = ap (λ (r : Option Named). files_of r (check_named words)) is

pub no_files : (words : List Bytes) → run_named words ≡ None → check_named words ≡ None → files_named words ≡ None
no_files words no_run no_check = ap₂ files_of no_run no_check

module _ (words : List Bytes) (seen : Observed) (status : ℕ) (text : Bytes) (known : HasInputs (check_named words) seen) where
  by_verdict : (bytes : Bytes) → WasRead output_limit seen known.files.output bytes → (v : Verdict)
      → IsVerdict known.inputs.schema known.files.inputs.clients known.inputs.scripts bytes v → TellsVerdict v status text → IsAnswer words seen status text
  by_verdict bytes read verdicts.Legal is told = checked (legal told.0 (record { of = record { lawful = known; output = bytes; read = read }; legal = is; says = told.1 }))
  by_verdict bytes read (verdicts.Not line) is told = checked (bad told.0 (record { of = record { lawful = known; output = bytes; read = read }; not_legal = is.0; line = line; first = is.1; says = told.1 }))

  by_error : (e : OutputError) → LoadsFile bytes_of output_limit seen known.files.output (Err e) → TellsOutputError known.files.output e status text → IsAnswer words seen status text
  by_error file_errors.Memory loads told = absurd told
  by_error file_errors.Read loads told = checked (cannot_read told.0 (record { lawful = known; cause = loads; says = told.1 }))
  by_error file_errors.TooLarge loads told = checked (too_large told.0 (record { lawful = known; cause = loads; says = told.1 }))

  by_output : AnswersOutput known.inputs known.files seen status text → IsAnswer words seen status text
  by_output (judged bytes read of) = by_verdict bytes read of.verdict of.is of.told
  by_output (unread e loads told) = by_error e loads told

-- what was seen of the output, since the inputs were read without a fault
seen_since : (told later : Option Contents) (sure surely : Bool) (before mid now : ℕ) → later ≡ told → surely ≡ sure → mid ≡ before
    → observed later surely mid now ≡ observed told sure before now
seen_since told later sure surely before mid now e f g = λ i. observed (e i) (f i) (g i) now

pub output_answered : (words : List Bytes) (files : Checked) (inputs : Inputs) (told later : Option Contents) (sure surely : Bool) (before mid now status : ℕ) (text : Bytes)
    → check_named words ≡ Some files → Loads (observed told sure before mid) (in_order files.inputs) (Ok inputs)
    → later ≡ told → surely ≡ sure → AnswersOutput inputs files (observed later surely mid now) status text
    → IsAnswer words (observed told sure before now) status text
output_answered words files inputs told later sure surely before mid now status text is loads e f answers =
    let same = seen_since told later sure surely before mid now e f loads.read.no_fault in
    let known : HasInputs (check_named words) (observed told sure before now) = record {
      files = files;
      is_check = is;
      schema = loads.schema;
      clients = loads.clients;
      whole = loads.read.whole;
      inputs = inputs;
      comes = loads.comes;
    } in
    by_output words (observed told sure before now) status text known (subst (λ (s : Observed). AnswersOutput inputs files s status text) same answers)
