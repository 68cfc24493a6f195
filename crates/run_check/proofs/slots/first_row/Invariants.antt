use Rattle.std.proofs.Common.{◌≡◌, map}
use Rattle.mdb_datum.specs.Pairs.{first_item, rows_of}
use Rattle.run_check.specs.inner.IndexView.{pairs_seen, slot_of}
use Rattle.run_check.proofs.slots.first_row.Given as goal

abbrev pub invariant-slots : goal.invariant-slots
invariant-slots l = first_item (rows_of (pairs_seen l.sight (map slot_of l.slots)))
    ≡ first_item (rows_of (pairs_seen l.sight (map slot_of l.initial.slots)))
