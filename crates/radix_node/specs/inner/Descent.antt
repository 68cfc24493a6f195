-- How a key ends at the last node on its way.
use Rattle.std.specs.Prelude.{◌≡◌, List, [], Option, None}
use Rattle.mdb_datum.specs.Row.{Pair}
use Rattle.radix_node.specs.Cells.{CellLeaf, CellNode}
use Rattle.radix_node.specs.WalkDown.{End, end_leaf, end_pairs, pairs_if}
use Rattle.radix_node.specs.declared.tree.descent.KeyEnd.{KeyEnd}
use Rattle.radix_node.specs.declared.tree.descent.KeyEnd.TheVariants.{At, Within, Outside}

-- the leaf of the key, where the node that it ends at has this one
abbrev pub leaf_by : KeyEnd → Option CellLeaf → Option CellLeaf
leaf_by At leaf = leaf
leaf_by Within leaf = None
leaf_by Outside leaf = None

-- the pairs whose keys begin with the key, where it ends at this node
abbrev pub pairs_by : KeyEnd → CellNode → List Pair
pairs_by At n = pairs_if [] n
pairs_by Within n = pairs_if [] n
pairs_by Outside n = []

-- The node is the last one of a key's walk, and the key finds there what the walk finds. In memory
-- the label stands in the edge and not before the node's prefix.
pub record EndsAt (end : End) (n : CellNode) (way : KeyEnd) : Type 0 where
  pub cell : n.cell ≡ end.node.cell
  pub leaf : end_leaf end ≡ leaf_by way n.leaf
  pub pairs : end_pairs end ≡ pairs_by way n
