-- The pieces of a tree that a write leaves where they are.
use Rattle.std.specs.Prelude.{List, [], ◌∷◌, ◌++◌, Option}
use Rattle.mdb_datum.specs.Bytes.{Bytes}
use Rattle.radix_node.specs.Cells.{CellLeaf, CellNode, CellNodes, no_cells, celled, Piece, leaf_pieces}
use Rattle.radix_node.specs.Nodes.{part}
use Rattle.radix_node.specs.Paths.{Has}
use Rattle.radix_txn.specs.declared.target.Target.{Target}
use Rattle.radix_txn.specs.declared.target.Target.TheVariants.{Key, Prefix}
use Rattle.radix_txn.specs.inner.Pieces.{inside_of}

-- the pieces within nodes side by side, without these nodes themselves
abbrev pub inner_pieces : CellNodes → List Piece
inner_pieces no_cells = []
inner_pieces (celled cell prefix leaf under later) = inside_of leaf under ++ inner_pieces later

-- the same with a leaf
abbrev pub below_pieces : Option CellLeaf → CellNodes → List Piece
below_pieces leaf under = leaf_pieces leaf ++ inner_pieces under

-- within one node from whose prefix the key or the prefix parts by p and k, where `below` stays
-- under it
abbrev pub staying : Target → Bytes → Bytes → Option CellLeaf → CellNodes → List Piece → List Piece
staying target [] (x ∷ k) leaf under below = leaf_pieces leaf ++ below
staying Key [] [] leaf under below = below
staying Prefix [] [] leaf under below = []
staying Key (y ∷ p) k leaf under below = inside_of leaf under
staying Prefix (y ∷ p) [] leaf under below = []
staying Prefix (y ∷ p) (x ∷ k) leaf under below = inside_of leaf under

-- of the pieces within nodes, those that stay in a write of the rest of a key, or of what begins
-- with it
abbrev pub outside : Target → Bytes → CellNodes → List Piece
outside target rest no_cells = []
outside target rest (celled cell prefix leaf under later) =
    let s = part prefix rest in
    staying target s.1 s.2 leaf under (outside target s.2 under) ++ outside target rest later

-- and below one node, at whose end the rest begins
abbrev pub outside_node : Target → Bytes → CellNode → List Piece
outside_node target rest n = staying target [] rest n.leaf n.under (outside target rest n.under)

-- all that are in one list are in another
abbrev pub AllIn : List Piece → List Piece → Type 0
AllIn xs ys = (x : Piece) → Has x xs → Has x ys
