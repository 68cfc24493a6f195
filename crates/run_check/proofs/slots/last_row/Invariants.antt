use Rattle.std.proofs.Common.{◌≡◌, length, map}
use Rattle.mdb_datum.specs.Pairs.{last_item, rows_of}
use Rattle.run_check.specs.inner.IndexView.{pairs_seen, slot_of}
use Rattle.run_check.proofs.slots.last_row.Given as goal

abbrev pub invariant-slots : goal.invariant-slots
invariant-slots l = last_item (rows_of (pairs_seen l.sight (map slot_of l.slots)))
    ≡ last_item (rows_of (pairs_seen l.sight (map slot_of l.initial.slots)))

abbrev pub decreases-slots : goal.decreases-slots
decreases-slots l = length l.slots
