-- What the pieces of a tree hold.
use Rattle.std.specs.Prelude.{◌≡◌, List, [], ◌∷◌, ◌++◌}
use Rattle.mdb_datum.specs.Row.{Pair}
use Rattle.radix_node.specs.Cells.{Piece, a_leaf, a_node, leaf_pieces, node_pieces, piece_cell, plain_leaf, plain_nodes}
use Rattle.radix_node.specs.Nodes.{pairs_of_leaf, pairs_of_nodes}
use Rattle.radix_node.specs.Paths.{Has}

-- a piece with all that is under it
abbrev pub all_of : Piece → List Piece
all_of (a_leaf l) = a_leaf l ∷ []
all_of (a_node n) = a_node n ∷ (leaf_pieces n.leaf ++ node_pieces n.under)

-- the pairs of a piece
abbrev pub pairs_under : Piece → List Pair
pairs_under (a_leaf l) = l.pair ∷ []
pairs_under (a_node n) = pairs_of_leaf (plain_leaf n.leaf) ++ pairs_of_nodes (plain_nodes n.under)

-- the pairs of the leaves among pieces
abbrev pub pairs_in : List Piece → List Pair
pairs_in [] = []
pairs_in (a_leaf l ∷ xs) = l.pair ∷ pairs_in xs
pairs_in (a_node n ∷ xs) = pairs_in xs

-- pieces of one id, of which the one list has the first and the other the second, hold the same
abbrev pub HoldTheSame : List Piece → List Piece → Type 0
HoldTheSame old new =
    (x y : Piece) → Has x old → Has y new → (piece_cell x).id ≡ (piece_cell y).id
    → pairs_under x ≡ pairs_under y
