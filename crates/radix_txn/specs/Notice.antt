-- What a transaction tells of the cells of its tree.
use Rattle.std.specs.Prelude.{◌≡◌, ℕ, false, ◌<◌, ◌≤◌, ◌↔◌, ◌⊎◌, List}
use Rattle.watch_word.specs.Logs.{Cell, Log, has_fired}
use Rattle.radix_node.specs.Ids.{Book, Counter}
use Rattle.radix_node.specs.Cells.{AreOf, CellTree, cells_of, count}
use Rattle.radix_node.specs.Paths.{Has}
use Rattle.radix_node.specs.Watches.{Fires, TellTheSame}

-- the cells are exactly those of the old tree that aren't in the new one, each once
pub record IsNotice (cells : List Cell) (old new : CellTree) : Type 0 where
  pub fires : (c : Cell) → Has c cells ↔ Fires c old new
  pub once : (i : ℕ) → count i cells ≤ 1

-- two trees of which these are the cells to fire: an id tells its piece in both, and the old one's
-- cells are of one book
pub record IsTold (cells : List Cell) (old new : CellTree) : Type 0 where
  pub notice : IsNotice cells old new
  pub same : TellTheSame old new
  pub book : Book
  pub of : AreOf book old

-- a cell of the new tree is one of the old tree's, or its id is at least `first`
abbrev pub IsOpened : ℕ → CellTree → CellTree → Type 0
IsOpened first old new = (c : Cell) → Has c (cells_of new) → Has c (cells_of old) ⊎ (first ≤ c.id)

-- a cell that was drawn between two moments of a counter, and isn't in a log
pub record IsBetween (log : Log) (before after : Counter) (c : Cell) : Type 0 where
  pub low : before.next ≤ c.id
  pub high : c.id < after.next
  pub book : c.book ≡ before.book
  pub fired : has_fired c log ≡ false

-- a cell of the new tree is one of the old tree's, or it was drawn in between
abbrev pub IsDrawn : Log → Counter → Counter → CellTree → CellTree → Type 0
IsDrawn log before after old new =
    (c : Cell) → Has c (cells_of new) → Has c (cells_of old) ⊎ IsBetween log before after c
