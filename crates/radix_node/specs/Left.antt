-- The cells of an old tree that leave it, where an id below `first` is one of the old tree's.
use Rattle.std.specs.Prelude.{ℕ, List, [], ◌∷◌, ◌++◌, Option, Some, None, map, nat_lt, if◌then◌else◌}
use Rattle.watch_word.specs.Logs.{Cell}
use Rattle.radix_node.specs.Cells.{CellLeaf, CellNode, piece_cell, leaf_pieces, node_pieces}

-- the cells that have left after one more
abbrev pub leave : ℕ → Cell → List Cell → List Cell
leave first c cs = if nat_lt c.id first then cs ++ c ∷ [] else cs

-- and after many
abbrev pub leave_all : ℕ → List Cell → List Cell → List Cell
leave_all first [] cs = cs
leave_all first (d ∷ ds) cs = leave_all first ds (leave first d cs)

-- after the cell of a leaf, if there is one
abbrev pub leave_leaf : ℕ → Option CellLeaf → List Cell → List Cell
leave_leaf first None cs = cs
leave_leaf first (Some l) cs = leave first l.cell cs

-- the cells of a node and of all under it
abbrev pub all_cells : CellNode → List Cell
all_cells n = n.cell ∷ map piece_cell (leaf_pieces n.leaf ++ node_pieces n.under)
