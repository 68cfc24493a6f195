-- Exactly one status is called for.
use Rattle.std.proofs.Common.{◌≡◌, ◌∙◌, refl, sym, inl, inr, ℕ, List, [], ◌∷◌, Option, Some, None}
use Rattle.mdb_datum.specs.Bytes.{Bytes}
use Rattle.run_io.specs.Causes.{HasNoExcuse}
use Rattle.run_io.specs.Named.{Named}
use Rattle.run_io.specs.Observed.{Observed}
use Rattle.run_io.specs.Statuses.{HasOneCause, IsOneOf}
use Rattle.run_io.proofs.FoundFiles.{Called, called_where_told, for_inputs, for_refusal}
use Rattle.run_io.proofs.OneAnswer.{LeadsToStatus, lawful_leads, leads_once, never_named, refusal_leads}
use Rattle.session_loop.specs.Causes.{LoopCallsFor, no_command, refused, lawful}
use Rattle.session_loop.specs.Words.{files_named}

-- ---- one status

-- what calls for a status, by the words: they are no command, or name files that lead to it
data Asks (words : List Bytes) (seen : Observed) (status : ℕ) : Type 0 where
  no_words : status ≡ 1 → files_named words ≡ None → Asks words seen status
  some_files : LeadsToStatus (files_named words) seen status → Asks words seen status

by_words : (words : List Bytes) (seen : Observed) (status : ℕ) → LoopCallsFor words seen status → Asks words seen status
by_words words seen status (no_command is none) = no_words is none
by_words words seen status (refused r) = some_files (refusal_leads (files_named words) seen status r)
by_words words seen status (lawful is l) = some_files (lawful_leads (files_named words) seen status is l)

one_status : (words : List Bytes) (seen : Observed) (s t : ℕ) → Asks words seen s → Asks words seen t → s ≡ t
one_status words seen s t (no_words is a) (no_words are c) = is ∙ sym are
one_status words seen s t (no_words is a) (some_files f) = absurd (never_named (files_named words) f.named a f.is_named)
one_status words seen s t (some_files f) (no_words are a) = absurd (never_named (files_named words) f.named a f.is_named)
one_status words seen s t (some_files f) (some_files g) = leads_once (files_named words) seen s t f g

pub no_two_causes : (words : List Bytes) (seen : Observed) (s t : ℕ) → LoopCallsFor words seen s → LoopCallsFor words seen t → s ≡ t
no_two_causes words seen s t a b = one_status words seen s t (by_words words seen s a) (by_words words seen t b)

-- ---- some status

-- one of two lists of statuses is a part of the other
among_all : (status : ℕ) → IsOneOf (2 ∷ 3 ∷ 5 ∷ 7 ∷ []) status → IsOneOf (0 ∷ 1 ∷ 2 ∷ 3 ∷ 5 ∷ 7 ∷ []) status
among_all status among = inr (inr among)

record HasCause (words : List Bytes) (seen : Observed) : Type 0 where
  status : ℕ
  among : IsOneOf (0 ∷ 1 ∷ 2 ∷ 3 ∷ 5 ∷ 7 ∷ []) status
  called : LoopCallsFor words seen status

has_cause : (words : List Bytes) (seen : Observed) → HasNoExcuse seen → HasCause words seen
has_cause words seen plain = by_command (files_named words) refl
  where
    by_files : Called (files_named words) seen → HasCause words seen
    by_files (for_refusal status among r) = record { status = status; among = among_all status among; called = refused r }
    by_files (for_inputs l) = record { status = 0; among = inl refl; called = lawful refl l }

    by_command : (f : Option Named) → files_named words ≡ f → HasCause words seen
    by_command (Some named) run = by_files (called_where_told (files_named words) seen named run plain)
    by_command None e = record { status = 1; among = inr (inl refl); called = no_command refl e }

pub one_cause_where_told : (words : List Bytes) (seen : Observed) → HasNoExcuse seen → HasOneCause (0 ∷ 1 ∷ 2 ∷ 3 ∷ 5 ∷ 7 ∷ []) (LoopCallsFor words seen)
one_cause_where_told words seen plain =
    let h = has_cause words seen plain in
    record { status = h.status; among = h.among; called = h.called; only = λ other calls. no_two_causes words seen other h.status calls h.called }
