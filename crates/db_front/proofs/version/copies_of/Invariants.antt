use Rattle.std.specs.Arc.{arc_value}
use Rattle.db_front.specs.inner.Copies.{AreCopies}
use Rattle.db_front.proofs.version.copies_of.Given as goal

abbrev pub invariant-loop : goal.invariant-loop
invariant-loop g l = AreCopies (arc_value l.value) l.copies.items
