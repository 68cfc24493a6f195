use Rattle.std.proofs.Common.{◌≡◌, take}
use Rattle.table_index.specs.inner.IndexTrees.{trees_of}
use Rattle.table_index.proofs.trees.standing.Given as goal

abbrev pub invariant-loop-at : goal.invariant-loop-at
invariant-loop-at l = (l.txns ≡ l.initial.txns) × (l.trees.items ≡ trees_of (take l.at l.initial.txns))
