use Rattle.std.proofs.Common.{◌≡◌, ◌≤◌, ℕ, length, map}
use Rattle.std.specs.Prelude.{IsTrue}
use Rattle.std.specs.FinMap as finite
use Rattle.mdb_datum.specs.Bytes.{byte_order}
use Rattle.mdb_datum.specs.Pairs.{last_item}
use Rattle.run_check.specs.inner.IndexView.{after_commit, pairs_seen, slot_of}
use Rattle.run_check.proofs.slots.is_last_same.Given as goal

abbrev pub invariant-slots : goal.invariant-slots
invariant-slots l = record {
  same : (j : ℕ) → l.first ≤ j → j ≤ l.last
      → last_item (pairs_seen (after_commit j) (map slot_of l.slots)) ≡ last_item (pairs_seen (after_commit j) (map slot_of l.initial.slots));
  sorted : IsTrue (finite.is_sorted byte_order (map slot_of l.slots));
}

abbrev pub decreases-slots : goal.decreases-slots
decreases-slots l = length l.slots
