use Rattle.std.proofs.Common.{◌+◌, ◌-◌, ◌*◌, length}
use Rattle.memdb.proofs.sessions.+run_all.Given as goal

abbrev pub decreases-run_all : goal.decreases-run_all
decreases-run_all g l = 4 * length l.sessions.now

abbrev pub decreases-run_both : goal.decreases-run_both
decreases-run_both g l = 4 * (length l.front.now + length l.back.now) - 1

abbrev pub decreases-run_both-join_deep+arg3 : goal.decreases-run_both-join_deep+arg3
decreases-run_both-join_deep+arg3 g l = 4 * length l.front.now + 1

abbrev pub decreases-run_both-join_deep+arg4 : goal.decreases-run_both-join_deep+arg4
decreases-run_both-join_deep+arg4 g l = 4 * length l.back.now + 1
