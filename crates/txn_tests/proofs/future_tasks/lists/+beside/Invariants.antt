use Rattle.std.proofs.Common.{◌+◌, ◌*◌}
use Rattle.txn_tests.proofs.future_tasks.lists.+beside.Given as goal

abbrev pub decreases-is_told : goal.decreases-is_told
decreases-is_told g l = 2 * l.left + 1

abbrev pub decreases-beside : goal.decreases-beside
decreases-beside g l = 2 * l.left
