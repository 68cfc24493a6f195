-- The pieces of one node, whatever stands in front of its prefix.
use Rattle.std.specs.Prelude.{List, [], ◌∷◌, ◌++◌, Option, Some, None}
use Rattle.mdb_datum.specs.Bytes.{Bytes}
use Rattle.radix_node.specs.CellNode.{cell_ref}
use Rattle.radix_node.specs.Cells.{CellLeaf, CellNode, CellNodes, Piece, a_node, leaf_pieces, node_pieces}
use Rattle.radix_node.specs.declared.node_ref.NodeRef.{NodeRef}

-- the node with bytes in front of its prefix
abbrev pub led : Bytes → CellNode → CellNode
led front n = record { cell = n.cell; prefix = front ++ n.prefix; leaf = n.leaf; under = n.under }

-- the pieces under a node, with its leaf
abbrev pub inside_of : Option CellLeaf → CellNodes → List Piece
inside_of leaf under = leaf_pieces leaf ++ node_pieces under

abbrev pub inside : CellNode → List Piece
inside n = inside_of n.leaf n.under

-- these and the node
abbrev pub whole : CellNode → List Piece
whole n = a_node n ∷ inside n

-- a node in memory, if there is one, as a list
abbrev pub ref_list : Bytes → Option NodeRef → List CellNode
ref_list front None = []
ref_list front (Some r) = led front (cell_ref r) ∷ []
