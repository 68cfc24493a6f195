use Rattle.std.proofs.Common.{map}
use Rattle.std.specs.Prelude.{◌↔◌}
use Rattle.run_check.specs.inner.IndexView.{AreAllSame, slot_of}
use Rattle.run_check.proofs.slots.are_all_same.Given as goal

abbrev pub invariant-slots : goal.invariant-slots
invariant-slots l = AreAllSame l.first l.last (map slot_of l.slots) ↔ AreAllSame l.first l.last (map slot_of l.initial.slots)
