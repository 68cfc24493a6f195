-- What a node is left with after a delete at or under it.
use Rattle.std.specs.Prelude.{List, Option, option_map}
use Rattle.std.specs.Arc.{arc_value}
use Rattle.radix_node.specs.CellNode.{cell_edges}
use Rattle.radix_node.specs.Cells.{CellLeaf, CellNodes, Piece, cells_in}
use Rattle.radix_node.specs.Nodes.{Plain}
use Rattle.radix_node.specs.Node.{leaf_pair, nodes_in, edges_of}
use Rattle.radix_txn.specs.declared.remains.Remains.{Remains}
use Rattle.radix_txn.specs.inner.Outside.{below_pieces}
use Rattle.radix_txn.specs.inner.Pieces.{inside_of}

-- its leaf and the nodes under it
abbrev pub remains_of : Remains → Plain
remains_of r = record { leaf = option_map leaf_pair r.leaf; nodes = nodes_in (edges_of r.edges) }

-- the same with their cells
abbrev pub own_leaf : Remains → Option CellLeaf
own_leaf r = option_map arc_value r.leaf

abbrev pub own_nodes : Remains → CellNodes
own_nodes r = cells_in (cell_edges r.edges)

abbrev pub pieces_left : Remains → List Piece
pieces_left r = inside_of (own_leaf r) (own_nodes r)

-- without the nodes of its edges, of which one may still be merged with it
abbrev pub stays_left : Remains → List Piece
stays_left r = below_pieces (own_leaf r) (own_nodes r)
