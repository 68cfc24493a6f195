use Rattle.std.proofs.Common.{◌≡◌, ◌-◌, ◌≤◌}
use Rattle.std.specs.Arc.{arc_value}
use Rattle.db_front.specs.inner.Copies.{AreCopies}
use Rattle.db_front.specs.inner.Seats.{HoldsTo}
use Rattle.db_front.proofs.commits.lay_others.Given as goal

abbrev pub invariant-loop-left : goal.invariant-loop-left
invariant-loop-left g l = (l.place.table_id ≡ l.initial.place.table_id) × (l.place.id ≡ l.initial.place.id) × (l.left ≤ l.callers - 1) × HoldsTo l.left l.initial.place.me.0 l.place × AreCopies (arc_value l.value) l.copies.items

abbrev pub decreases-loop-left : goal.decreases-loop-left
decreases-loop-left g l = l.left
