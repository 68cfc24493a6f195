use Rattle.std.proofs.Common.{◌≡◌}
use Rattle.radix_iter.proofs.LevelSteps.{weight}
use Rattle.radix_iter.specs.inner.LevelRows.{rows_up}
use Rattle.radix_iter.proofs.level.next_rising.Given as goal

-- the rows that are left are all
abbrev pub invariant-loop-level : goal.invariant-loop-level
invariant-loop-level l = rows_up l.levels.items ≡ rows_up l.initial.levels.items

abbrev pub decreases-loop-level : goal.decreases-loop-level
decreases-loop-level l = weight l.levels.items
