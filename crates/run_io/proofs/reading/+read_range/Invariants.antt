use Rattle.std.proofs.Common.{◌+◌, ◌-◌, ◌*◌, length}
use Rattle.run_io.proofs.reading.+read_range.Given as goal

abbrev pub decreases-read_range : goal.decreases-read_range
decreases-read_range g l = 4 * length l.clients.now

abbrev pub decreases-read_both : goal.decreases-read_both
decreases-read_both g l = 4 * (length l.front.now + length l.back.now) - 1

abbrev pub decreases-read_both-join_deep+arg3 : goal.decreases-read_both-join_deep+arg3
decreases-read_both-join_deep+arg3 g l = 4 * length l.front.now + 1

abbrev pub decreases-read_both-join_deep+arg4 : goal.decreases-read_both-join_deep+arg4
decreases-read_both-join_deep+arg4 g l = 4 * length l.back.now + 1
