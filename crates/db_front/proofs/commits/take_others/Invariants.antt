use Rattle.std.proofs.Common.{◌≡◌, ◌-◌}
use Rattle.db_front.specs.inner.Seats.{HoldsTo}
use Rattle.db_front.proofs.commits.take_others.Given as goal

abbrev pub invariant-loop-caller : goal.invariant-loop-caller
invariant-loop-caller g l = (l.place.table_id ≡ l.initial.place.table_id) × (l.place.id ≡ l.initial.place.id) × HoldsTo (l.caller - 1) l.initial.place.me.0 l.place
