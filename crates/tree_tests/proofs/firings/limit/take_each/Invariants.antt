use Rattle.std.proofs.Common.{◌≡◌}
use Rattle.tree_tests.proofs.firings.limit.take_each.Given as goal

abbrev pub invariant-loop-prefix : goal.invariant-loop-prefix
invariant-loop-prefix l = l.work.start ≡ l.initial.work.start
