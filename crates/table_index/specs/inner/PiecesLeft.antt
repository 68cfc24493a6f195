-- The pieces of a tree that a walk has still to pass, by the levels that it keeps.
use Rattle.std.specs.Prelude.{List, [], ◌∷◌, ◌++◌, map, Option, Some, None, option_copied}
use Rattle.radix_node.specs.CellNode.{led_node}
use Rattle.radix_node.specs.Cells.{Piece, a_leaf, a_node, cells_in, leaf_pieces, node_pieces}
use Rattle.table_index.specs.declared.pieces.Level.{Level}
use Rattle.table_index.specs.declared.pieces.Part.{Part}
use Rattle.table_index.specs.declared.pieces.Part.TheVariants.{Leaf, Under}
use Rattle.table_index.specs.declared.pieces.Pieces.{Pieces}
use Rattle.table_index.specs.inner.PiecesIn.{all_of}

abbrev pub part_piece : Part → Piece
part_piece (Leaf l) = a_leaf l.now
part_piece (Under e) = a_node (led_node e.now)

abbrev pub part_pieces : Option Part → List Piece
part_pieces None = []
part_pieces (Some p) = all_of (part_piece p)

-- those of one level, in order
abbrev pub level_pieces : Level → List Piece
level_pieces l = leaf_pieces (option_copied l.own) ++ node_pieces (cells_in (map led_node l.edges.now))

-- those of levels, the last first
abbrev pub pieces_left : List Level → List Piece
pieces_left [] = []
pieces_left (l ∷ ls) = pieces_left ls ++ level_pieces l

abbrev pub pieces_at : Pieces → List Piece
pieces_at p = part_pieces p.front ++ pieces_left p.levels.items
