-- What is told of a quiet watch holds after fewer commits too, and in a longer history.
use Rattle.std.proofs.Common.{◌≡◌, ◌∙◌, ◌-◌, ◌<◌, ◌≤◌, ◌⊎◌, inl, inr, ℕ, length, slice_get, sym, ap, subst, arith}
use Rattle.std.proofs.Math.Nat.{eq-or-lt_of_le}
use mathlib.Core.List.{IsPrefix}
use Rattle.mdb_datum.proofs.ListPlaces.{get_first}
use Rattle.mdb_schema.specs.Answer.{ask}
use Rattle.mdb_schema.specs.Guarded.{IsGuarded, IsUnchanged}
use Rattle.mdb_schema.specs.History.{History, IsMadeBy}
use Rattle.mdb_schema.specs.Query.{Query}
use Rattle.mdb_schema.specs.Schema.{DbSchema}
use Rattle.mdb_schema.specs.State.{State}
use Rattle.mem_txn.proofs.HeldAlong.{state_longer}

-- ---- fewer commits

guarded_before : (schema : DbSchema) (H : History) (q : Query) (v m n : ℕ) → m ≤ n → IsGuarded schema H q v n → IsGuarded schema H q v m
guarded_before schema H q v m n less is j low high = is j low (omega (arith, less, high))

pub unchanged_before : (schema : DbSchema) (H : History) (caller : ℕ) (q : Query) (v m n : ℕ) → m ≤ n → IsUnchanged schema H caller q v n → IsUnchanged schema H caller q v m
unchanged_before schema H caller q v m n less is = of (eq-or-lt_of_le less)
  where
    of : (m ≡ n) ⊎ (m < n) → IsUnchanged schema H caller q v m
    of (inl same) = subst (IsUnchanged schema H caller q v) (sym same) is
    of (inr before) = record {
      before_last = guarded_before schema H q v (m - 1) (n - 1) (omega (arith, before)) is.before_last;
      own = λ own. guarded_before schema H q v m (n - 1) (omega (arith, before)) is.before_last;
    }

-- ---- a longer history

module _ (schema : DbSchema) (old new : History) (more : IsPrefix old new) where
  guarded_longer : (q : Query) (v n : ℕ) → n ≤ length old → IsGuarded schema old q v n → IsGuarded schema new q v n
  guarded_longer q v n within guarded j low high =
      let there = state_longer schema old new j more (omega (arith, within, high)) in
      let first = state_longer schema old new v more (omega (arith, within, low, high)) in
      ap (λ (s : State). ask schema s q) there ∙ guarded j low high ∙ sym (ap (λ (s : State). ask schema s q) first)

  made_before : (caller n : ℕ) → n ≤ length old → IsMadeBy new caller n → IsMadeBy old caller n
  made_before caller n within own =
      let some = own.0 in (
        own.0,
        own.1,
        sym (get_first old more.0 (n - 1) (omega (arith, within, some))) ∙ ap (λ (H : History). slice_get H (n - 1)) more.1 ∙ own.2,
        own.3,
      )

  pub unchanged_longer : (caller : ℕ) (q : Query) (v n : ℕ) → n ≤ length old → IsUnchanged schema old caller q v n → IsUnchanged schema new caller q v n
  unchanged_longer caller q v n within is = record {
    before_last = guarded_longer q v (n - 1) (omega (arith, within)) is.before_last;
    own = λ own. guarded_longer q v n within (is.own (made_before caller n within own));
  }
