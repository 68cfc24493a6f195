-- Parts of a tree that a walk goes down to.
use Rattle.std.specs.Prelude.{List, map}
use Rattle.mdb_datum.specs.Bytes.{Bytes}
use Rattle.watch_word.specs.Logs.{Cell}
use Rattle.radix_node.specs.CellNode.{led_node}
use Rattle.radix_node.specs.Cells.{CellNode, CellNodes, CellTree, Piece, a_node, cells_in, node_pieces, piece_cell, pieces_of}
use Rattle.radix_node.specs.Paths.{Has}
use Rattle.radix_node.specs.declared.edge.Edge.{Edge}

-- the nodes that edges lead to, and the cells of these and of all under them
abbrev pub nodes_at : List Edge → CellNodes
nodes_at es = cells_in (map led_node es)

abbrev pub cells_at : List Edge → List Cell
cells_at es = map piece_cell (node_pieces (nodes_at es))

-- a node of a tree, whatever bytes lead to it
pub record IsNodeOf (n : CellNode) (t : CellTree) : Type 0 where
  pub prefix : Bytes
  pub there : Has (a_node (record { cell = n.cell; prefix = prefix; leaf = n.leaf; under = n.under })) (pieces_of t)

-- all nodes side by side, and what is under them
abbrev pub AreNodesOf : CellNodes → CellTree → Type 0
AreNodesOf ns t = (x : Piece) → Has x (node_pieces ns) → Has x (pieces_of t)
