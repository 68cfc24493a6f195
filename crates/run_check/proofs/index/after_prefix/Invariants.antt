use Rattle.std.proofs.Common.{◌≡◌, length}
use Rattle.run_check.specs.inner.IndexView.{end_of}
use Rattle.run_check.proofs.index.after_prefix.Given as goal

abbrev pub invariant-bytes : goal.invariant-bytes
invariant-bytes l = end_of l.rest ≡ end_of l.prefix

abbrev pub decreases-bytes : goal.decreases-bytes
decreases-bytes l = length l.rest
