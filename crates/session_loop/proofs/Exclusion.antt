-- Where a cause is there, no other status is answered.
use Rattle.std.proofs.Common.{◌≡◌, refl, sym, subst, inl, inr, ℕ, zero, suc, List, None}
use Rattle.mdb_datum.specs.Bytes.{Bytes}
use Rattle.run_io.specs.Observed.{Observed}
use Rattle.run_io.specs.RefusalCauses.{AreLawful, CallsForRefusal}
use Rattle.run_io.specs.Statuses.{IsOneOf}
use Rattle.run_io.proofs.LoadedStatus.{HasLoaded, lawful_comes, read_loaded, refusal_comes, refused_loaded}
use Rattle.run_io.proofs.OneAnswer.{never_named, refusal_leads}
use Rattle.session_loop.specs.Causes as cause
use Rattle.session_loop.specs.Causes.{LoopCallsFor, no_command, lawful, statuses_for}
use Rattle.session_loop.specs.Outcome as outcome
use Rattle.session_loop.specs.Outcome.{IsAnswer, done, halted, usage}
use Rattle.session_loop.specs.Words.{files_named}

-- ---- what is answered

-- by the words: they are no command, or name files that were loaded, with this status, or with 0
-- where the clients are stuck
data StatusByWords (words : List Bytes) (seen : Observed) (status : ℕ) : Type 0 where
  to_none : status ≡ 1 → files_named words ≡ None → StatusByWords words seen status
  to_files : HasLoaded (files_named words) seen status → StatusByWords words seen status
  to_halted : status ≡ 9 → HasLoaded (files_named words) seen 0 → StatusByWords words seen status

by_answer : (words : List Bytes) (seen : Observed) (status : ℕ) (text : Bytes) → IsAnswer words seen status text → StatusByWords words seen status
by_answer words seen status text (done is d) = to_files (read_loaded (files_named words) seen status d.named d.inputs is d.read)
by_answer words seen status text (halted is h) = to_halted is (read_loaded (files_named words) seen 0 h.named h.inputs refl h.read)
by_answer words seen status text (usage is u) = to_none is u.no_command
by_answer words seen status text (outcome.refused r) = to_files (refused_loaded (files_named words) seen status text r)

-- ---- the statuses that come where one is called for

ends_as : (status called : ℕ) → status ≡ called → IsOneOf (statuses_for called) status
ends_as status zero e = inl e
ends_as status (suc n) e = inl e

halts_as : (status called : ℕ) → status ≡ 9 → called ≡ 0 → IsOneOf (statuses_for called) status
halts_as status called is none = subst (λ (n : ℕ). IsOneOf (statuses_for n) status) (sym none) (inr (inl is))

-- want of memory
pub memory_comes : (called : ℕ) → IsOneOf (statuses_for called) 4
memory_comes zero = inr (inr (inl refl))
memory_comes (suc n) = inr (inl refl)

-- a failed write
pub cut_comes : (called : ℕ) → IsOneOf (statuses_for called) 6
cut_comes zero = inr (inr (inr (inl refl)))
cut_comes (suc n) = inr (inr (inl refl))

-- ---- each cause

for_no_command : (words : List Bytes) (seen : Observed) (status called : ℕ) → StatusByWords words seen status → called ≡ 1 → files_named words ≡ None → IsOneOf (statuses_for called) status
for_no_command words seen status called (to_none is none) are no_words = subst (λ (n : ℕ). IsOneOf (statuses_for n) status) (sym are) (inl is)
for_no_command words seen status called (to_files h) are no_words = absurd (never_named (files_named words) h.named no_words h.is_named)
for_no_command words seen status called (to_halted is h) are no_words = absurd (never_named (files_named words) h.named no_words h.is_named)

for_refusal : (words : List Bytes) (seen : Observed) (status called : ℕ) → StatusByWords words seen status → CallsForRefusal (files_named words) seen called → IsOneOf (statuses_for called) status
for_refusal words seen status called (to_none is none) r =
    let f = refusal_leads (files_named words) seen called r in
    absurd (never_named (files_named words) f.named none f.is_named)
for_refusal words seen status called (to_files h) r = ends_as status called (refusal_comes (files_named words) seen status called h r)
for_refusal words seen status called (to_halted is h) r = halts_as status called is (sym (refusal_comes (files_named words) seen 0 called h r))

for_lawful : (words : List Bytes) (seen : Observed) (status called : ℕ) → StatusByWords words seen status → called ≡ 0 → AreLawful (files_named words) seen → IsOneOf (statuses_for called) status
for_lawful words seen status called (to_none is none) are l = absurd (never_named (files_named words) l.named none l.finds.is_named)
for_lawful words seen status called (to_files h) are l = ends_as status called (lawful_comes (files_named words) seen status called h are l)
for_lawful words seen status called (to_halted is h) are l = halts_as status called is are

-- ---- all together

pub called_for : (words : List Bytes) (seen : Observed) (status called : ℕ) (text : Bytes) → IsAnswer words seen status text → LoopCallsFor words seen called → IsOneOf (statuses_for called) status
called_for words seen status called text a (no_command is none) = for_no_command words seen status called (by_answer words seen status text a) is none
called_for words seen status called text a (cause.refused r) = for_refusal words seen status called (by_answer words seen status text a) r
called_for words seen status called text a (lawful is l) = for_lawful words seen status called (by_answer words seen status text a) is l
