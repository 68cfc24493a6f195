use Rattle.std.proofs.Common.{◌≡◌, length}
use Rattle.mdb_datum.specs.Pairs.{prefixes_of}
use Rattle.run_check.specs.inner.IndexView.{pairs_seen}
use Rattle.run_check.proofs.index.Index.longest.Given as goal

abbrev pub invariant-prefixes : goal.invariant-prefixes
invariant-prefixes l = prefixes_of l.prefix (pairs_seen l.sight l.self.slots) ≡ prefixes_of l.key (pairs_seen l.sight l.self.slots)

abbrev pub decreases-prefixes : goal.decreases-prefixes
decreases-prefixes l = length l.prefix
