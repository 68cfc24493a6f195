use Rattle.std.proofs.Common.{length}
use Rattle.txn_tests.proofs.txns.steps.collected.Given as goal

abbrev pub decreases-loop-rows : goal.decreases-loop-rows
decreases-loop-rows l = length l.walk
