-- What an answer is, by its status.
use Rattle.std.proofs.Common.{arith, ◌≡◌, subst, inl, inr, ℕ, List, [], ◌∷◌, Option}
use Rattle.std.specs.Prelude.{◌⊎◌}
use Rattle.mdb_datum.specs.Bytes.{Bytes}
use Rattle.mdb_ports.specs.Sink.{Grows}
use Rattle.memdb.specs.CheckOutcome as check
use Rattle.memdb.specs.CheckOutcome.{CannotReadOutput, IsBad, IsLegal, OutputTooLarge}
use Rattle.memdb.specs.Outcome as outcome
use Rattle.memdb.specs.Outcome.{Done, IsAnswer, Made, Usage, checked, done, usage}
use Rattle.memdb.specs.Words.{check_named, files_named}
use Rattle.run_io.specs.Ended.{CutShort, HasEnded, Wrote, answered, cut_short, out_of_memory}
use Rattle.run_io.specs.Observed.{Observed}
use Rattle.run_io.specs.Refusals as refused
use Rattle.run_io.specs.Refusals.{BrokenSchema, BrokenScript, CannotRead, TooLarge}
use Rattle.run_io.specs.Statuses.{IsOneOf}

-- a text was written of which this holds
pub wrote : (old new : Option Bytes) (P : Bytes → Type 0) (text bytes : Bytes) → bytes ≡ text → P text → Grows old new bytes → Wrote old new P
wrote old new P text bytes same holds grown = record { text = text; holds = holds; grown = subst (λ (b : Bytes). Grows old new b) same grown }

wrote_as : {old new : Option Bytes} (P Q : Bytes → Type 0) → ((text : Bytes) → P text → Q text) → Wrote old new P → Wrote old new Q
wrote_as P Q of w = record { text = w.text; holds = of w.text w.holds; grown = w.grown }

-- ---- from an answer to its status

module _ (words : List Bytes) (seen : Observed) (status : ℕ) (text : Bytes) where
  -- an output, a summary or a verdict
  pub at_0 : status ≡ 0 → IsAnswer words seen status text → Done words seen text ⊎ (Made words text ⊎ IsLegal (check_named words) seen text)
  at_0 e (done is d) = inl d
  at_0 e (outcome.made is m) = inr (inl m)
  at_0 e (usage is u) = absurd (omega (arith, is, e))
  at_0 e (checked (check.legal is x)) = inr (inr x)
  at_0 e (checked (check.bad is x)) = absurd (omega (arith, is, e))
  at_0 e (checked (check.cannot_read is x)) = absurd (omega (arith, is, e))
  at_0 e (checked (check.too_large is x)) = absurd (omega (arith, is, e))
  at_0 e (outcome.refused (refused.broken_schema is x)) = absurd (omega (arith, is, e))
  at_0 e (outcome.refused (refused.broken_script is x)) = absurd (omega (arith, is, e))
  at_0 e (outcome.refused (refused.cannot_read is x)) = absurd (omega (arith, is, e))
  at_0 e (outcome.refused (refused.too_large is x)) = absurd (omega (arith, is, e))

  -- a file that can't be read
  pub at_5 : status ≡ 5 → IsAnswer words seen status text → CannotRead (files_named words) seen text ⊎ CannotReadOutput (check_named words) seen text
  at_5 e (done is d) = absurd (omega (arith, is, e))
  at_5 e (outcome.made is m) = absurd (omega (arith, is, e))
  at_5 e (usage is u) = absurd (omega (arith, is, e))
  at_5 e (checked (check.legal is x)) = absurd (omega (arith, is, e))
  at_5 e (checked (check.bad is x)) = absurd (omega (arith, is, e))
  at_5 e (checked (check.cannot_read is x)) = inr x
  at_5 e (checked (check.too_large is x)) = absurd (omega (arith, is, e))
  at_5 e (outcome.refused (refused.broken_schema is x)) = absurd (omega (arith, is, e))
  at_5 e (outcome.refused (refused.broken_script is x)) = absurd (omega (arith, is, e))
  at_5 e (outcome.refused (refused.cannot_read is x)) = inl x
  at_5 e (outcome.refused (refused.too_large is x)) = absurd (omega (arith, is, e))

  -- a file that is too large
  pub at_7 : status ≡ 7 → IsAnswer words seen status text → TooLarge (files_named words) seen text ⊎ OutputTooLarge (check_named words) seen text
  at_7 e (done is d) = absurd (omega (arith, is, e))
  at_7 e (outcome.made is m) = absurd (omega (arith, is, e))
  at_7 e (usage is u) = absurd (omega (arith, is, e))
  at_7 e (checked (check.legal is x)) = absurd (omega (arith, is, e))
  at_7 e (checked (check.bad is x)) = absurd (omega (arith, is, e))
  at_7 e (checked (check.cannot_read is x)) = absurd (omega (arith, is, e))
  at_7 e (checked (check.too_large is x)) = inr x
  at_7 e (outcome.refused (refused.broken_schema is x)) = absurd (omega (arith, is, e))
  at_7 e (outcome.refused (refused.broken_script is x)) = absurd (omega (arith, is, e))
  at_7 e (outcome.refused (refused.cannot_read is x)) = absurd (omega (arith, is, e))
  at_7 e (outcome.refused (refused.too_large is x)) = inl x

  -- the first bad line
  pub at_10 : status ≡ 10 → IsAnswer words seen status text → IsBad (check_named words) seen text
  at_10 e (done is d) = absurd (omega (arith, is, e))
  at_10 e (outcome.made is m) = absurd (omega (arith, is, e))
  at_10 e (usage is u) = absurd (omega (arith, is, e))
  at_10 e (checked (check.legal is x)) = absurd (omega (arith, is, e))
  at_10 e (checked (check.bad is x)) = x
  at_10 e (checked (check.cannot_read is x)) = absurd (omega (arith, is, e))
  at_10 e (checked (check.too_large is x)) = absurd (omega (arith, is, e))
  at_10 e (outcome.refused (refused.broken_schema is x)) = absurd (omega (arith, is, e))
  at_10 e (outcome.refused (refused.broken_script is x)) = absurd (omega (arith, is, e))
  at_10 e (outcome.refused (refused.cannot_read is x)) = absurd (omega (arith, is, e))
  at_10 e (outcome.refused (refused.too_large is x)) = absurd (omega (arith, is, e))

-- ---- and back

module _ (words : List Bytes) (seen : Observed) (old new : Option Bytes) (status : ℕ) where
  of_0 : status ≡ 0 → (text : Bytes) → Done words seen text ⊎ (Made words text ⊎ IsLegal (check_named words) seen text) → IsAnswer words seen status text
  of_0 is text (inl d) = done is d
  of_0 is text (inr (inl m)) = outcome.made is m
  of_0 is text (inr (inr l)) = checked (check.legal is l)

  of_5 : status ≡ 5 → (text : Bytes) → CannotRead (files_named words) seen text ⊎ CannotReadOutput (check_named words) seen text → IsAnswer words seen status text
  of_5 is text (inl r) = outcome.refused (refused.cannot_read is r)
  of_5 is text (inr r) = checked (check.cannot_read is r)

  of_7 : status ≡ 7 → (text : Bytes) → TooLarge (files_named words) seen text ⊎ OutputTooLarge (check_named words) seen text → IsAnswer words seen status text
  of_7 is text (inl l) = outcome.refused (refused.too_large is l)
  of_7 is text (inr l) = checked (check.too_large is l)

  -- the clauses on what was written
  pub record HasWritten : Type 0 where
    pub answered : status ≡ 0 → Wrote old new (λ text. Done words seen text ⊎ (Made words text ⊎ IsLegal (check_named words) seen text))
    pub usage : status ≡ 1 → Wrote old new (Usage words seen)
    pub broken_schema : status ≡ 2 → Wrote old new (BrokenSchema (files_named words) seen)
    pub broken_script : status ≡ 3 → Wrote old new (BrokenScript (files_named words) seen)
    pub out_of_memory : status ≡ 4 → new ≡ old
    pub cannot_read : status ≡ 5 → Wrote old new (λ text. CannotRead (files_named words) seen text ⊎ CannotReadOutput (check_named words) seen text)
    pub cut_short : status ≡ 6 → Wrote old new (CutShort (IsAnswer words seen))
    pub too_large : status ≡ 7 → Wrote old new (λ text. TooLarge (files_named words) seen text ⊎ OutputTooLarge (check_named words) seen text)
    pub first_bad : status ≡ 10 → Wrote old new (IsBad (check_named words) seen)

  -- are those of how a run ends
  pub has_ended : HasWritten → IsOneOf (0 ∷ 1 ∷ 2 ∷ 3 ∷ 4 ∷ 5 ∷ 6 ∷ 7 ∷ 10 ∷ []) status → HasEnded (IsAnswer words seen) old new status
  has_ended h (inl is) = answered (wrote_as _ (IsAnswer words seen status) (of_0 is) (h.answered is))
  has_ended h (inr (inl is)) = answered (wrote_as _ (IsAnswer words seen status) (λ text u. usage is u) (h.usage is))
  has_ended h (inr (inr (inl is))) = answered (wrote_as _ (IsAnswer words seen status) (λ text b. outcome.refused (refused.broken_schema is b)) (h.broken_schema is))
  has_ended h (inr (inr (inr (inl is)))) = answered (wrote_as _ (IsAnswer words seen status) (λ text b. outcome.refused (refused.broken_script is b)) (h.broken_script is))
  has_ended h (inr (inr (inr (inr (inl is))))) = out_of_memory is (h.out_of_memory is)
  has_ended h (inr (inr (inr (inr (inr (inl is)))))) = answered (wrote_as _ (IsAnswer words seen status) (of_5 is) (h.cannot_read is))
  has_ended h (inr (inr (inr (inr (inr (inr (inl is))))))) = cut_short is (h.cut_short is)
  has_ended h (inr (inr (inr (inr (inr (inr (inr (inl is)))))))) = answered (wrote_as _ (IsAnswer words seen status) (of_7 is) (h.too_large is))
  has_ended h (inr (inr (inr (inr (inr (inr (inr (inr (inl is))))))))) = answered (wrote_as _ (IsAnswer words seen status) (λ text b. checked (check.bad is b)) (h.first_bad is))
  has_ended h (inr (inr (inr (inr (inr (inr (inr (inr (inr none))))))))) = absurd none
