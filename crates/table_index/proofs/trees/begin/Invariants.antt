use Rattle.std.proofs.Common.{◌≡◌, map, take}
use Rattle.table_index.specs.inner.IndexTrees.{new_tree_txn}
use Rattle.table_index.proofs.trees.begin.Given as goal

abbrev pub invariant-loop-tree : goal.invariant-loop-tree
invariant-loop-tree l = l.txns.items ≡ map new_tree_txn (take l.tree-index l.trees)
