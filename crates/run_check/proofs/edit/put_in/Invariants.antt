use Rattle.std.proofs.Common.{map, take}
use Rattle.run_check.specs.inner.EditView.{IsIn}
use Rattle.run_check.specs.inner.KeyView.{bytes_of}
use Rattle.run_check.proofs.edit.put_in.Given as goal

-- the row is in under the keys so far
abbrev pub invariant-loop-key : goal.invariant-loop-key
invariant-loop-key l = IsIn l.stamp l.row (map bytes_of (take l.key-index l.keys)) l.initial.index l.index
