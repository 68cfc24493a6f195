use Rattle.std.proofs.Common.{◌≡◌, ◌++◌, map}
use Rattle.mdb_datum.specs.Pairs.{rows_of}
use Rattle.run_check.specs.inner.IndexView.{pairs_seen, slot_of}
use Rattle.run_check.proofs.slots.all_rows.Given as goal

abbrev pub invariant-slots : goal.invariant-slots
invariant-slots l = map (λ r. r.now) l.rows.items ++ rows_of (pairs_seen l.sight (map slot_of l.slots))
    ≡ rows_of (pairs_seen l.sight (map slot_of l.initial.slots))
