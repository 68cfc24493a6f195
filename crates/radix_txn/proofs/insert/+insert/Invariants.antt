use Rattle.std.proofs.Common.{◌+◌, ◌*◌, length}
use Rattle.radix_txn.proofs.insert.+insert.Given as goal

-- the walk is no deeper than the key is long
abbrev pub decreases-insert : goal.decreases-insert
decreases-insert l = 2 * length l.rest.now

abbrev pub decreases-insert_under : goal.decreases-insert_under
decreases-insert_under l = 2 * length l.rest.now + 1
