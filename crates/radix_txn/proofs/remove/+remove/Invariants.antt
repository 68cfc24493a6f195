use Rattle.std.proofs.Common.{length}
use Rattle.radix_txn.proofs.remove.+remove.Given as goal

-- the walk is no deeper than the rest is long
abbrev pub decreases-remove : goal.decreases-remove
decreases-remove l = length l.rest.now
