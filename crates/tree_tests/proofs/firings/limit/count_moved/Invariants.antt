use Rattle.std.proofs.Common.{◌≤◌, ◌*◌}
use Rattle.tree_tests.proofs.firings.limit.count_moved.Given as goal

abbrev pub invariant-loop-number : goal.invariant-loop-number
invariant-loop-number l = l.count ≤ 2 * l.number
