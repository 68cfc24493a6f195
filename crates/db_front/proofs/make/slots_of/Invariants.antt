use Rattle.std.proofs.Common.{◌≡◌, ◌-◌, length}
use Rattle.db_front.specs.inner.FrontRule.{size_of}
use Rattle.db_front.specs.inner.Seats.{LiesTo}
use Rattle.db_front.proofs.make.slots_of.Given as goal

abbrev pub invariant-loop-caller : goal.invariant-loop-caller
invariant-loop-caller g l = (length l.slots.items ≡ size_of l.callers) × LiesTo (l.caller - 1) l.card l.slots.items
