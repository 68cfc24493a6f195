use Rattle.run_check.specs.inner.EditView.{IsOut, keys_in}
use Rattle.run_check.proofs.EachPlace.{HasCome}
use Rattle.run_check.proofs.edit.take_all.Given as goal

-- the row is out of the indexes so far, and the others are as they were
abbrev pub invariant-loop-at : goal.invariant-loop-at
invariant-loop-at l = HasCome (λ k x y. IsOut l.stamp (keys_in l.keys k) x y) l.initial.indexes l.at l.indexes
