use Rattle.std.proofs.Common.{◌≡◌, ◌<◌, ℕ, false}
use Rattle.run_check.specs.inner.EditView.{is_taken_at}
use Rattle.run_check.proofs.edit.taken_in.Given as goal

-- no index so far has one that is taken
abbrev pub invariant-loop-at : goal.invariant-loop-at
invariant-loop-at l = (k : ℕ) → k < l.at → is_taken_at l.sight l.new l.old l.indexes k ≡ false
