-- Exactly one status is called for.
use Rattle.std.proofs.Common.{◌≡◌, ◌∙◌, refl, sym, subst, inl, inr, ℕ, List, [], ◌∷◌, Option, Some, None, Ok}
use Rattle.std.specs.Prelude.{IsSome}
use Rattle.mdb_datum.specs.Bytes.{Bytes}
use Rattle.mdb_ports.specs.Files.{Contents}
use Rattle.memdb.specs.Causes.{CallsFor, FindsInputs, no_command, refused, made, lawful, no_output, large_output, output}
use Rattle.memdb.specs.Made.{Numbers}
use Rattle.memdb.specs.Words.{Checked, check_named, files_named, numbers_named, run_named}
use Rattle.run_io.specs.Causes.{HasNoExcuse}
use Rattle.run_io.specs.Named.{Named}
use Rattle.run_io.specs.Observed.{Observed, IsAbsent, IsPast, IsWholeWithin, output_limit}
use Rattle.run_io.specs.RefusalCauses.{AreLawful, CallsForRefusal, Finds}
use Rattle.run_io.specs.Statuses.{HasOneCause, IsOneOf}
use Rattle.run_io.proofs.FoundFiles.{Called, called_where_told, for_inputs, for_refusal}
use Rattle.run_io.proofs.InOrder.{absent_not_large, absent_not_whole, large_not_whole}
use Rattle.run_io.proofs.OneAnswer.{LeadsToStatus, lawful_leads, leads_once, named_once, never_named, refusal_leads}
use Rattle.run_io.proofs.OneFile.{FoundFile, file_found, is_gone, is_large, is_whole}
use Rattle.memdb.proofs.CheckedOutput.{no_files, run_files}
use Rattle.memdb.proofs.Exclusion.{inputs_lead, refusal_not_zero}
use Rattle.memdb.proofs.OneCommand.{check_inputs, checked_once, numbers_once, one_command, run_or_check}

-- ---- one status

-- what an output calls for
data OutputCause (seen : Observed) (name : Bytes) (status : ℕ) : Type 0 where
  gone : status ≡ 5 → IsAbsent seen.told name → OutputCause seen name status
  large : status ≡ 7 → IsPast output_limit seen.told name → OutputCause seen name status
  whole : status ≡ 10 → (bytes : Bytes) → IsWholeWithin output_limit seen.told name bytes → OutputCause seen name status

one_output : (seen : Observed) (name : Bytes) (s t : ℕ) → IsSome seen.told → OutputCause seen name s → OutputCause seen name t → s ≡ t
one_output seen name s t tells (gone is a) (gone are b) = is ∙ sym are
one_output seen name s t tells (gone is a) (large are b) = absurd (absent_not_large seen.told name a b)
one_output seen name s t tells (gone is a) (whole are bytes b) = absurd (absent_not_whole seen.told name a bytes b)
one_output seen name s t tells (large is a) (gone are b) = absurd (absent_not_large seen.told name b a)
one_output seen name s t tells (large is a) (large are b) = is ∙ sym are
one_output seen name s t tells (large is a) (whole are bytes b) = absurd (large_not_whole seen.told name tells a bytes b)
one_output seen name s t tells (whole is bytes a) (gone are b) = absurd (absent_not_whole seen.told name b bytes a)
one_output seen name s t tells (whole is bytes a) (large are b) = absurd (large_not_whole seen.told name tells b bytes a)
one_output seen name s t tells (whole is bytes a) (whole are cs b) = is ∙ sym are

-- what calls for a status, by the words: they are no command, or numbers, or name files that lead
-- to it, or an output
data Asks (words : List Bytes) (seen : Observed) (status : ℕ) : Type 0 where
  no_words : status ≡ 1 → files_named words ≡ None → numbers_named words ≡ None → Asks words seen status
  some_numbers : status ≡ 0 → (n : Numbers) → numbers_named words ≡ Some n → Asks words seen status
  some_run : (named : Named) → run_named words ≡ Some named → LeadsToStatus (files_named words) seen status → Asks words seen status
  some_refusal : (status ≡ 0 → ⊥) → LeadsToStatus (files_named words) seen status → Asks words seen status
  some_output : (of : FindsInputs (check_named words) seen) → IsSome seen.told → OutputCause seen of.files.output status → Asks words seen status

module _ (words : List Bytes) (seen : Observed) where
  run_leads : (status : ℕ) → status ≡ 0 → (l : AreLawful (run_named words) seen) → LeadsToStatus (files_named words) seen status
  run_leads status is l = lawful_leads (files_named words) seen status is (record {
    named = l.named;
    inputs = l.inputs;
    finds = record { is_named = run_files words l.named l.finds.is_named; schema = l.finds.schema; clients = l.finds.clients; whole = l.finds.whole; comes = l.finds.comes };
    no_excuse = l.no_excuse;
  })

  by_words : (status : ℕ) → CallsFor words seen status → Asks words seen status
  by_words status (no_command is none no_make) = no_words is none no_make
  by_words status (refused r) = some_refusal (refusal_not_zero (files_named words) seen status r) (refusal_leads (files_named words) seen status r)
  by_words status (made is n make) = some_numbers is n make
  by_words status (lawful is l) = some_run l.named l.finds.is_named (run_leads status is l)
  by_words status (no_output is of absent) = some_output of (subst (λ (t : Option Contents). IsSome t) (sym absent.tells) refl) (gone is absent)
  by_words status (large_output is of past plain) = some_output of plain.tells (large is past)
  by_words status (output is of bytes w plain) = some_output of plain.tells (whole is bytes w)

  -- words that name files are no others
  named_files : (status : ℕ) → LeadsToStatus (files_named words) seen status → files_named words ≡ None → ⊥
  named_files status f none = never_named (files_named words) f.named none f.is_named

  named_numbers : (status : ℕ) (n : Numbers) → LeadsToStatus (files_named words) seen status → numbers_named words ≡ Some n → ⊥
  named_numbers status n f make = one_command words f.named n f.is_named make

  abbrev leads : (of : FindsInputs (check_named words) seen) → IsSome seen.told → LeadsToStatus (files_named words) seen 0
  leads of tells = inputs_lead words seen of tells

  refused_leads : (status : ℕ) → (status ≡ 0 → ⊥) → LeadsToStatus (files_named words) seen status → (of : FindsInputs (check_named words) seen) → IsSome seen.told → ⊥
  refused_leads status not f of tells = not (leads_once (files_named words) seen status 0 f (leads of tells))

  one_status : (s t : ℕ) → Asks words seen s → Asks words seen t → s ≡ t
  one_status s t (no_words is a b) (no_words are c d) = is ∙ sym are
  one_status s t (no_words is a b) (some_numbers are n make) = absurd (numbers_once words n b make)
  one_status s t (no_words is a b) (some_run n run f) = absurd (named_files t f a)
  one_status s t (no_words is a b) (some_refusal not f) = absurd (named_files t f a)
  one_status s t (no_words is a b) (some_output of tells o) = absurd (named_files 0 (leads of tells) a)
  one_status s t (some_numbers is n make) (no_words are a b) = absurd (numbers_once words n b make)
  one_status s t (some_numbers is n make) (some_numbers are m makes) = is ∙ sym are
  one_status s t (some_numbers is n make) (some_run m run f) = absurd (named_numbers t n f make)
  one_status s t (some_numbers is n make) (some_refusal not f) = absurd (named_numbers t n f make)
  one_status s t (some_numbers is n make) (some_output of tells o) = absurd (named_numbers 0 n (leads of tells) make)
  one_status s t (some_run m run f) (no_words are a b) = absurd (named_files s f a)
  one_status s t (some_run m run f) (some_numbers are n make) = absurd (named_numbers s n f make)
  one_status s t (some_run m run f) (some_run n runs g) = leads_once (files_named words) seen s t f g
  one_status s t (some_run m run f) (some_refusal not g) = leads_once (files_named words) seen s t f g
  one_status s t (some_run m run f) (some_output of tells o) = absurd (run_or_check words m of.files run of.is_check)
  one_status s t (some_refusal not f) (no_words are a b) = absurd (named_files s f a)
  one_status s t (some_refusal not f) (some_numbers are n make) = absurd (named_numbers s n f make)
  one_status s t (some_refusal not f) (some_run n run g) = leads_once (files_named words) seen s t f g
  one_status s t (some_refusal not f) (some_refusal nor g) = leads_once (files_named words) seen s t f g
  one_status s t (some_refusal not f) (some_output of tells o) = absurd (refused_leads s not f of tells)
  one_status s t (some_output of tells o) (no_words are a b) = absurd (named_files 0 (leads of tells) a)
  one_status s t (some_output of tells o) (some_numbers are n make) = absurd (named_numbers 0 n (leads of tells) make)
  one_status s t (some_output of tells o) (some_run m run g) = absurd (run_or_check words m of.files run of.is_check)
  one_status s t (some_output of tells o) (some_refusal not g) = absurd (refused_leads t not g of tells)
  one_status s t (some_output of tells o) (some_output af told p) =
      let same = checked_once (check_named words) af.files of.files af.is_check of.is_check in
      one_output seen of.files.output s t tells o (subst (λ (c : Checked). OutputCause seen c.output t) same p)

pub no_two_causes : (words : List Bytes) (seen : Observed) (s t : ℕ) → CallsFor words seen s → CallsFor words seen t → s ≡ t
no_two_causes words seen s t a b = one_status words seen s t (by_words words seen s a) (by_words words seen t b)

-- ---- some status

-- one of two lists of statuses is a part of the other
among_all : (status : ℕ) → IsOneOf (2 ∷ 3 ∷ 5 ∷ 7 ∷ []) status → IsOneOf (0 ∷ 1 ∷ 2 ∷ 3 ∷ 5 ∷ 7 ∷ 10 ∷ []) status
among_all status (inl is) = inr (inr (inl is))
among_all status (inr (inl is)) = inr (inr (inr (inl is)))
among_all status (inr (inr (inl is))) = inr (inr (inr (inr (inl is))))
among_all status (inr (inr (inr (inl is)))) = inr (inr (inr (inr (inr (inl is)))))
among_all status (inr (inr (inr (inr none)))) = absurd none

record HasCause (words : List Bytes) (seen : Observed) : Type 0 where
  status : ℕ
  among : IsOneOf (0 ∷ 1 ∷ 2 ∷ 3 ∷ 5 ∷ 7 ∷ 10 ∷ []) status
  called : CallsFor words seen status

has_cause : (words : List Bytes) (seen : Observed) → HasNoExcuse seen → HasCause words seen
has_cause words seen plain = by_command (run_named words) (check_named words) (numbers_named words) refl refl refl
  where
    -- what the files of one command call for, they do as the files that the words name
    by_refusal : (o : Option Named) → o ≡ files_named words → (status : ℕ) → IsOneOf (2 ∷ 3 ∷ 5 ∷ 7 ∷ []) status → CallsForRefusal o seen status → HasCause words seen
    by_refusal o same status among r = record { status = status; among = among_all status among; called = refused (subst (λ (p : Option Named). CallsForRefusal p seen status) same r) }

    by_run : (named : Named) → run_named words ≡ Some named → Called (run_named words) seen → HasCause words seen
    by_run named run (for_refusal status among r) = by_refusal (run_named words) (run ∙ sym (run_files words named run)) status among r
    by_run named run (for_inputs l) = record { status = 0; among = inl refl; called = lawful refl l }

    by_output : (of : FindsInputs (check_named words) seen) → FoundFile output_limit seen.told of.files.output → HasCause words seen
    by_output of (is_gone absent) = record { status = 5; among = inr (inr (inr (inr (inl refl)))); called = no_output refl of absent }
    by_output of (is_large past) = record { status = 7; among = inr (inr (inr (inr (inr (inl refl))))); called = large_output refl of past plain }
    by_output of (is_whole bytes w) = record { status = 10; among = inr (inr (inr (inr (inr (inr (inl refl)))))); called = output refl of bytes w plain }

    finds_of : (c : Checked) (l : AreLawful (Some c.inputs) seen) → Finds (Some c.inputs) seen c.inputs (Ok l.inputs)
    finds_of c l = subst (λ (n : Named). Finds (Some c.inputs) seen n (Ok l.inputs)) (named_once (Some c.inputs) l.named c.inputs l.finds.is_named refl) l.finds

    by_check : (c : Checked) → check_named words ≡ Some c → Called (Some c.inputs) seen → HasCause words seen
    by_check c check (for_refusal status among r) = by_refusal (Some c.inputs) (sym (check_inputs words c check)) status among r
    by_check c check (for_inputs l) =
        let of : FindsInputs (check_named words) seen = record { files = c; is_check = check; inputs = l.inputs; finds = finds_of c l } in
        by_output of (file_found output_limit seen.told c.output plain.tells)

    by_command : (run : Option Named) (check : Option Checked) (make : Option Numbers) → run_named words ≡ run → check_named words ≡ check → numbers_named words ≡ make → HasCause words seen
    by_command (Some named) check make e f g = by_run named e (called_where_told (run_named words) seen named e plain)
    by_command None (Some c) make e f g = by_check c f (called_where_told (Some c.inputs) seen c.inputs refl plain)
    by_command None None (Some n) e f g = record { status = 0; among = inl refl; called = made refl n g }
    by_command None None None e f g = record { status = 1; among = inr (inl refl); called = no_command refl (no_files words e f) g }

pub one_cause_where_told : (words : List Bytes) (seen : Observed) → HasNoExcuse seen → HasOneCause (0 ∷ 1 ∷ 2 ∷ 3 ∷ 5 ∷ 7 ∷ 10 ∷ []) (CallsFor words seen)
one_cause_where_told words seen plain =
    let h = has_cause words seen plain in
    record { status = h.status; among = h.among; called = h.called; only = λ other calls. no_two_causes words seen other h.status calls h.called }
