use Rattle.std.proofs.Common.{◌+◌, ◌*◌, length}
use Rattle.radix_txn.proofs.remove.owned.+take.Given as goal

-- the walk is no deeper than the rest is long
abbrev pub decreases-take_in : goal.decreases-take_in
decreases-take_in l = 2 * length l.rest.now

abbrev pub decreases-take_at : goal.decreases-take_at
decreases-take_at l = 2 * length l.rest.now + 1
