-- What cells tell of two tables, of which the newer came of the older by a change.
use Rattle.std.specs.Prelude.{◌≡◌, List, [], ◌∷◌, ⊤}
use Rattle.watch_word.specs.Logs.{Cell}
use Rattle.radix_node.specs.Cells.{CellTree, cells_of}
use Rattle.radix_node.specs.Paths.{Has}
use Rattle.radix_node.specs.Watches.{HoldsWatched}

-- equal ids in both trees are equal cells; and whatever is watched in the old tree, its cell isn't
-- in the new one, or nothing has changed there
pub record CellsTell (old new : CellTree) : Type 0 where
  pub ids : (c d : Cell) → Has c (cells_of old) → Has d (cells_of new) → c.id ≡ d.id → c ≡ d
  pub held : HoldsWatched old new

-- the same of the tree of each index
abbrev pub AllCellsTell : List CellTree → List CellTree → Type 0
AllCellsTell [] [] = ⊤
AllCellsTell (old ∷ olds) (new ∷ news) = CellsTell old new × AllCellsTell olds news
AllCellsTell [] (new ∷ news) = ⊥
AllCellsTell (old ∷ olds) [] = ⊥
