-- The two forms of a notice.
use Rattle.std.specs.Prelude.{◌≤◌, ◌<◌, List, Option, Some, None, length}
use Rattle.watch_word.specs.Logs.{Cell}
use Rattle.radix_node.specs.Cells.{CellTree}
use Rattle.radix_txn.specs.Notice.{IsTold}

-- cells beyond the limit
pub record AreBeyond (cells : List Cell) (old new : CellTree) : Type 0 where
  pub many : 8192 < length cells
  pub told : IsTold cells old new

-- few cells, and no trees; or more, and the trees
abbrev pub HasForm : List Cell → Option (CellTree × CellTree) → Type 0
HasForm cells None = length cells ≤ 8192
HasForm cells (Some trees) = AreBeyond cells trees.0 trees.1
