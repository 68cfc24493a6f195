use Rattle.std.proofs.Common.{◌≡◌, drop, map}
use Rattle.run_check.specs.inner.EditView.{is_taken, seen_of}
use Rattle.run_check.specs.inner.KeyView.{bytes_of}
use Rattle.run_check.proofs.edit.is_taken.Given as goal

-- no key so far is taken
abbrev pub invariant-loop-key : goal.invariant-loop-key
invariant-loop-key l = is_taken (map bytes_of l.new) (map bytes_of l.old) (seen_of l.sight l.index) ≡ is_taken (map bytes_of (drop l.key-index l.new)) (map bytes_of l.old) (seen_of l.sight l.index)
