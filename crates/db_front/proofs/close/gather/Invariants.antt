use Rattle.std.proofs.Common.{◌≡◌, List, ◌++◌, length, map}
use Rattle.db_front.specs.Passes.{Known, AreIdle}
use Rattle.db_front.specs.inner.Seats.{hand_of}
use Rattle.db_front.proofs.close.gather.Given as goal

abbrev pub invariant-loop-pass : goal.invariant-loop-pass
invariant-loop-pass g l =
    (l.place.table_id ≡ l.initial.place.table_id) × (l.place.id ≡ l.initial.place.id)
    × AreIdle (l.board.table_id, l.board.key.1) l.passes.passes
    × (gone : List (Known g.row.V.Denot)) × (l.initial.passes.passes ≡ gone ++ l.passes.passes)
    × (l.place.me ≡ (record l.initial.place.me.0 { more = map hand_of gone }, l.initial.place.me.1))

abbrev pub decreases-loop-pass : goal.decreases-loop-pass
decreases-loop-pass g l = length l.passes.passes
