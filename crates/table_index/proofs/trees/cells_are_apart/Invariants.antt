use Rattle.std.proofs.Common.{ℕ, ◌<◌, get_or}
use Rattle.radix_node.specs.Cells.{AreApart, CellTree}
use Rattle.table_index.proofs.trees.cells_are_apart.Given as goal

abbrev pub invariant-loop-tree : goal.invariant-loop-tree
invariant-loop-tree l = (k : ℕ) (none : CellTree) → k < l.tree-index → AreApart (get_or l.trees k none)
