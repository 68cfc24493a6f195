-- What contracts see of a tree, and what is true of each.
use Rattle.std.specs.Prelude.{◌≡◌, [], length}
use Rattle.radix_node.specs.CellNode.{cell_ref, tree_at}
use Rattle.radix_node.specs.Cells.{AreApart, CellTree, plain_of}
use Rattle.radix_node.specs.Node.{node_of}
use Rattle.radix_node.specs.Nodes.{pairs_of}
use Rattle.radix_node.specs.Shape.{HasShape}
use Rattle.radix_node.specs.declared.tree.Tree.TheInside.{Inside}

abbrev pub tree_cells : Inside → CellTree
tree_cells t = tree_at (cell_ref t.root)

-- the root has no prefix, the nodes have the shape, the keys are counted, and no two cells have one
-- id
pub record IsTree (t : Inside) : Type 0 where
  pub rooted : let n = node_of t.root in n.prefix ≡ []
  pub shape : HasShape (plain_of (tree_cells t))
  pub counted : t.len ≡ length (pairs_of (plain_of (tree_cells t)))
  pub apart : AreApart (tree_cells t)
