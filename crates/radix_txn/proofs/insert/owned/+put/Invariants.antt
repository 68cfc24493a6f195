use Rattle.std.proofs.Common.{◌+◌, ◌*◌, length}
use Rattle.radix_txn.proofs.insert.owned.+put.Given as goal

-- the walk is no deeper than the key is long
abbrev pub decreases-put_in : goal.decreases-put_in
decreases-put_in l = 4 * length l.rest.now

abbrev pub decreases-put_at : goal.decreases-put_at
decreases-put_at l = 4 * length l.rest.now + 1

abbrev pub decreases-put_under : goal.decreases-put_under
decreases-put_under l = 4 * length l.rest.now + 2

abbrev pub decreases-put_edge : goal.decreases-put_edge
decreases-put_edge l = 4 * length l.rest.now + 3
