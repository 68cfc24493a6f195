-- Where a command's files call for a status, no other is answered.
use Rattle.std.proofs.Common.{◌≡◌, ◌∙◌, refl, sym, ap, subst, inl, inr, ℕ, List, ◌∷◌, Option, Some, Ok, Err}
use Rattle.std.specs.Prelude.{◌⊎◌, IsSome, ⊤}
use Rattle.mdb_datum.specs.Bytes.{Bytes}
use Rattle.mdb_ports.specs.Files.{Contents}
use Rattle.run_io.specs.Causes.{HasNoExcuse}
use Rattle.run_io.specs.Inputs.{schema_error}
use Rattle.run_io.specs.Loads.{Loads}
use Rattle.run_io.specs.Named.{Named, in_order}
use Rattle.run_io.specs.Observed.{Observed, IsAbsent, IsReached}
use Rattle.run_io.specs.RefusalCauses.{CallsForRefusal, AreLawful, absent, too_large, broken, broken_script}
use Rattle.run_io.specs.Refusals as refusal
use Rattle.run_io.specs.Refusals.{IsRefused, ReadAs}
use Rattle.run_io.specs.declared.inputs.Inputs.{Inputs}
use Rattle.run_io.specs.declared.load_error.LoadError.TheVariants.{Memory, Read, TooLarge, Schema, Script}
use Rattle.run_io.proofs.Exclusion.{load_called}
use Rattle.run_io.proofs.InOrder.{large_not_whole, absent_not_whole, absent_not_large, reached_whole, reached_once}
use Rattle.run_io.proofs.OneAnswer.{Loaded, LeadsToStatus, lawful_leads, named_once, refusal_leads, status_of}

-- an answer that isn't want of memory
abbrev pub IsOfFiles : Loaded → Type 0
IsOfFiles (Err Memory) = ⊥
IsOfFiles answer = ⊤

-- the files that a command names were loaded as an answer of this status
pub record HasLoaded (command : Option Named) (seen : Observed) (status : ℕ) : Type 0 where
  pub named : Named
  pub is_named : command ≡ Some named
  pub answer : Loaded
  pub loads : Loads seen (in_order named) answer
  pub of_files : IsOfFiles answer
  pub has_status : status ≡ status_of answer

-- files that are refused were loaded as an error
pub refused_loaded : (command : Option Named) (seen : Observed) (status : ℕ) (text : Bytes) → IsRefused command seen status text → HasLoaded command seen status
refused_loaded command seen status text (refusal.broken_schema is b) =
    record { named = b.named; is_named = b.read.is_named; answer = Err (Schema (schema_error b.rule)); loads = b.read.reads; of_files = tt; has_status = is }
refused_loaded command seen status text (refusal.broken_script is b) =
    record { named = b.named; is_named = b.read.is_named; answer = Err (Script b.client b.rule); loads = b.read.reads; of_files = tt; has_status = is }
refused_loaded command seen status text (refusal.cannot_read is r) =
    record { named = r.named; is_named = r.is_named; answer = Err (Read r.file); loads = r.cause; of_files = tt; has_status = is }
refused_loaded command seen status text (refusal.too_large is l) =
    record { named = l.named; is_named = l.is_named; answer = Err (TooLarge l.file); loads = l.cause; of_files = tt; has_status = is }

-- and others as inputs
pub read_loaded : (command : Option Named) (seen : Observed) (status : ℕ) (named : Named) (inputs : Inputs) → status ≡ 0 → ReadAs command seen named (Ok inputs) → HasLoaded command seen status
read_loaded command seen status named inputs is r =
    record { named = named; is_named = r.is_named; answer = Ok inputs; loads = r.reads; of_files = tt; has_status = is }

-- ---- each cause

-- where no fault excuses another, the answer has the status to which the files lead
loaded_status : (command : Option Named) (seen : Observed) (s t : ℕ) → HasLoaded command seen s → LeadsToStatus command seen t → HasNoExcuse seen → s ≡ t
loaded_status command seen s t h l plain = h.has_status ∙ by_answer (load_called seen (in_order l.named) plain h.answer l.answer loads l.leads) ∙ sym l.has_status
  where
    loads : Loads seen (in_order l.named) h.answer
    loads = subst (λ (n : Named). Loads seen (in_order n) h.answer) (named_once command h.named l.named h.is_named l.is_named) h.loads

    by_answer : (h.answer ≡ l.answer) ⊎ (h.answer ≡ Err Memory) → status_of h.answer ≡ status_of l.answer
    by_answer (inl same) = ap status_of same
    by_answer (inr short) = absurd (subst IsOfFiles short h.of_files)

-- a file that is reached and isn't there is told as one that can't be read
absent_status : (seen : Observed) (names : List Bytes) (r : Loaded) → Loads seen names r → IsOfFiles r →
    (file : ℕ) (name : Bytes) → IsReached seen.told names file name → IsAbsent seen.told name → status_of r ≡ 5
absent_status seen names (Ok inputs) h real file name reached gone = absurd (reached_whole seen.told names (h.schema ∷ h.clients) file name h.read.whole reached (absent_not_whole seen.told name gone))
absent_status seen names (Err Memory) h real file name reached gone = absurd real
absent_status seen names (Err (Read f)) h real file name reached gone = refl
absent_status seen names (Err (TooLarge f)) h real file name reached gone =
    let tells = subst (λ (t : Option Contents). IsSome t) (sym gone.tells) refl in
    let at = reached_once seen.told names file f name h.name reached h.reached (absent_not_whole seen.told name gone) (large_not_whole seen.told h.name tells h.large) in
    absurd (absent_not_large seen.told h.name (subst (λ (m : Bytes). IsAbsent seen.told m) at.1 gone) h.large)
absent_status seen names (Err (Schema e)) h real file name reached gone = absurd (reached_whole seen.told names (h.schema ∷ h.clients) file name h.read.whole reached (absent_not_whole seen.told name gone))
absent_status seen names (Err (Script client e)) h real file name reached gone = absurd (reached_whole seen.told names (h.schema ∷ h.clients) file name h.read.whole reached (absent_not_whole seen.told name gone))

-- a refusal that is called for comes
pub refusal_comes : (command : Option Named) (seen : Observed) (s t : ℕ) → HasLoaded command seen s → CallsForRefusal command seen t → s ≡ t
refusal_comes command seen s t h (absent is named name r gone) =
    let same = named_once command h.named named h.is_named r.is_named in
    let loads : Loads seen (in_order named) h.answer = subst (λ (n : Named). Loads seen (in_order n) h.answer) same h.loads in
    h.has_status ∙ absent_status seen (in_order named) h.answer loads h.of_files r.file name r.reached gone ∙ sym is
refusal_comes command seen s t h (too_large is named name r large plain) = loaded_status command seen s t h (refusal_leads command seen t (too_large is named name r large plain)) plain
refusal_comes command seen s t h (broken is named rule f plain) = loaded_status command seen s t h (refusal_leads command seen t (broken is named rule f plain)) plain
refusal_comes command seen s t h (broken_script is named client rule f plain) = loaded_status command seen s t h (refusal_leads command seen t (broken_script is named client rule f plain)) plain

-- and lawful files are answered
pub lawful_comes : (command : Option Named) (seen : Observed) (s t : ℕ) → HasLoaded command seen s → t ≡ 0 → AreLawful command seen → s ≡ t
lawful_comes command seen s t h is l = loaded_status command seen s t h (lawful_leads command seen t is l) l.no_excuse
