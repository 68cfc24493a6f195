use Rattle.std.proofs.Common.{◌≡◌}
use Rattle.radix_iter.proofs.LevelSteps.{weight}
use Rattle.radix_iter.specs.inner.LevelRows.{rows_down}
use Rattle.radix_iter.proofs.level.next_falling.Given as goal

-- the rows that are left are all
abbrev pub invariant-loop-level : goal.invariant-loop-level
invariant-loop-level l = rows_down l.levels.items ≡ rows_down l.initial.levels.items

abbrev pub decreases-loop-level : goal.decreases-loop-level
decreases-loop-level l = weight l.levels.items
