-- What the end of a change tells of the cells of a table.
use Rattle.std.specs.Prelude.{ℕ, List, [], ◌∷◌, ⊤}
use Rattle.watch_word.specs.Logs.{Cell}
use Rattle.radix_node.specs.Cells.{AreBelow, CellTree}
use Rattle.radix_node.specs.Watches.{HoldsWatched}
use Rattle.radix_txn.specs.Notice.{IsNotice, IsOpened}

-- the cells are those that are gone from the tree of an index, whose other watches find what they
-- found; and the new tree's other cells were opened by the change
pub record IsFrozen (gone : List Cell) (old new : CellTree) : Type 0 where
  pub notice : IsNotice gone old new
  pub held : HoldsWatched old new
  pub first : ℕ
  pub below : AreBelow first old
  pub opened : IsOpened first old new

-- the same of each index: its notice, its tree before the change and its tree after it
abbrev pub AreFrozen : List (List Cell) → List CellTree → List CellTree → Type 0
AreFrozen [] [] [] = ⊤
AreFrozen (gone ∷ notices) (old ∷ start) (new ∷ trees) =
    IsFrozen gone old new × AreFrozen notices start trees
AreFrozen [] [] (new ∷ trees) = ⊥
AreFrozen [] (old ∷ start) trees = ⊥
AreFrozen (gone ∷ notices) [] trees = ⊥
AreFrozen (gone ∷ notices) (old ∷ start) [] = ⊥
