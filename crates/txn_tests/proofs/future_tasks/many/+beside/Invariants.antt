use Rattle.std.proofs.Common.{◌+◌, ◌*◌}
use Rattle.txn_tests.proofs.future_tasks.many.+beside.Given as goal

abbrev pub decreases-are_right : goal.decreases-are_right
decreases-are_right g l = 3 * l.left + 2

abbrev pub decreases-are_right_over : goal.decreases-are_right_over
decreases-are_right_over g l = 3 * l.left + 1

abbrev pub decreases-go_on : goal.decreases-go_on
decreases-go_on g l = 3 * l.left
