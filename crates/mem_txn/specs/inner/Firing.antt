-- The cells that a commit fires.
use Rattle.std.specs.Prelude.{List, [], ◌∷◌, ◌++◌, map}
use Rattle.radix_node.specs.Paths.{Has}
use Rattle.watch_word.specs.Logs.{Cell}
use Rattle.mem_txn.specs.CellHistory.{FiresIn, Forest}

-- the cells in the notices of a table's indexes
abbrev pub cells_in : List (List Cell) → List Cell
cells_in [] = []
cells_in (cells ∷ notices) = cells ++ cells_in notices

-- those in the notices of several tables
abbrev pub cells_told : List (List (List Cell)) → List Cell
cells_told notices = cells_in (map cells_in notices)

-- the cells are those that are gone from the trees
pub record AreGone (old new : Forest) (cells : List Cell) : Type 0 where
  pub all : (c : Cell) → FiresIn old new c → Has c cells
  pub gone : (c : Cell) → Has c cells → FiresIn old new c
