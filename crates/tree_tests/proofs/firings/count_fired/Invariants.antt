use Rattle.std.proofs.Common.{◌≤◌}
use Rattle.tree_tests.proofs.firings.count_fired.Given as goal

abbrev pub invariant-loop-cell : goal.invariant-loop-cell
invariant-loop-cell l = l.count ≤ l.cell-index
