-- What a delete does to a whole tree.
use Rattle.std.proofs.Common.{◌≡◌, ◌+◌, ◌<◌, ◌∙◌, ℕ, Bool, true, false, cond, List, length, Option, is_some, refl, sym, ap, subst, arith}
use Rattle.std.specs.FinMap.Entries as entries
use Rattle.mdb_datum.specs.Bytes.{byte_order}
use Rattle.mdb_datum.specs.Row.{Fields, Pair}
use Rattle.radix_node.specs.Nodes.{Plain, pairs_of}
use Rattle.radix_node.specs.Pairs.{IsRising, find}
use Rattle.radix_node.specs.Shape.{HasShape}
use Rattle.radix_node.specs.Seek.{seek_plain}
use Rattle.radix_node.proofs.WholeTree.{rising_plain, find_plain}
use Rattle.radix_txn.specs.declared.target.Target.{Target}
use Rattle.radix_txn.specs.declared.target.Target.TheVariants.{Key, Prefix}
use Rattle.radix_txn.specs.inner.Removal.{IsAbsent, IsMissing, IsRemoval, IsTaken, IsThere, LosesPairs, kept_pairs, old_row, row_of}
use Rattle.radix_txn.proofs.RemovePairs.{kept_remove}
use Rattle.radix_txn.proofs.RemoveShape.{shape_remove}
use Rattle.mdb_datum.proofs.ByteOrder.{byte_order_total, T_from_true}

counted_there : (b : Bool) (m n : ℕ) → cond {A = ℕ} b 1 0 + m ≡ n → m < n → b ≡ true
counted_there true m n all less = refl
counted_there false m n all less = absurd (omega (arith, all, less))

-- where pairs are fewer afterwards, there is such a key
fewer_there : (target : Target) (key : List ℕ) (ps : List Pair) → IsRising ps → length (kept_pairs target key ps) < length ps → IsThere target key ps
fewer_there Key key ps rising less = counted_there (is_some (find key ps)) _ _ (entries.length_without byte_order byte_order_total key ps (T_from_true _ rising)) less
fewer_there Prefix key ps rising less = less

module _ (target : Target) (key : List ℕ) (t : Plain) (s : HasShape t) where
  found : row_of target (seek_plain key t) ≡ old_row target key (pairs_of t)
  found = by_target target
    where
      by_target : (target : Target) → row_of target (seek_plain key t) ≡ old_row target key (pairs_of t)
      by_target Key = sym (find_plain key t s)
      by_target Prefix = refl

  pub is_there : LosesPairs target key t → IsThere target key (pairs_of t)
  is_there less = fewer_there target key (pairs_of t) (rising_plain t s) (subst (λ (ps : List Pair). length ps < length (pairs_of t)) (kept_remove target key t s) less)

  pub absent : IsMissing target key t → IsAbsent target key (pairs_of t)
  absent h = record { kept = sym (kept_remove target key t s) ∙ h.pairs; old = sym found ∙ h.old }

  module _ (r : Plain) (row : Option Fields) (count : ℕ) (h : IsRemoval target key t r row count) where
    pub loses : LosesPairs target key t
    loses = omega (arith, h.counted, h.some, ap (λ (z : Plain). length (pairs_of z)) h.tree)

    pub shaped : HasShape r
    shaped = subst HasShape (sym h.tree) (shape_remove target key t s)

    pub taken : IsTaken target key (pairs_of t) (pairs_of r) row count
    taken = record {
      kept = ap pairs_of h.tree ∙ kept_remove target key t s;
      old = h.old ∙ found;
      counted = h.counted;
      some = h.some;
      there = is_there loses;
    }
