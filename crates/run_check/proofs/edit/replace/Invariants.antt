use Rattle.run_check.specs.inner.EditView.{IsReplaced, keys_in}
use Rattle.run_check.proofs.EachPlace.{HasCome}
use Rattle.run_check.proofs.edit.replace.Given as goal

-- the row is in the indexes so far, and the others are as they were
abbrev pub invariant-loop-at : goal.invariant-loop-at
invariant-loop-at l = HasCome (λ k x y. IsReplaced l.stamp l.row (keys_in l.new k) (keys_in l.old k) x y) l.initial.indexes l.at l.indexes
