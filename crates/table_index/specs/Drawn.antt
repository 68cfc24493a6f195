-- What a write of a table asks of the ids for new cells, and what it draws of them.
use Rattle.std.specs.Prelude.{◌≡◌, ◌≤◌, ◌+◌, ℕ, List, false}
use Rattle.watch_word.specs.Logs.{Log}
use Rattle.radix_node.specs.Cells.{CellTree}
use Rattle.radix_node.specs.Ids.{Counter}
use Rattle.table_index.specs.Table.{AreAllBelow, AreAllOf, AreDrawn, AreNewInTurn, AreSeparate, TableChange}

-- the trees of a new table: each cell was drawn, and no two trees share an id
pub record HasNewCells (log : Log) (old new : Counter) (trees : List CellTree) : Type 0 where
  pub below : AreAllBelow new.next trees
  pub of : AreAllOf new.book trees
  pub drawn : AreNewInTurn log old new trees
  pub separate : AreSeparate trees

-- a table may be written, with cells of the front's book; all cells of its trees have ids that were
-- drawn, and those of the present trees are of that book
pub record MayBeWritten (front : Log) (ids : Counter) (x : TableChange) : Type 0 where
  pub sound : x.spoiled ≡ false
  pub book : front.book ≡ ids.book
  pub below : AreAllBelow ids.next x.trees
  pub of : AreAllOf ids.book x.trees
  pub start : AreAllBelow ids.next x.start

-- a write of a table drew so many ids at most, for cells that aren't in a log; and the same holds of
-- the cells of its trees again, of which no two share an id if no two did
pub record HasDrawnCells (log : Log) (most : ℕ) (old new : Counter) (before after : TableChange)
    : Type 0 where
  pub below : AreAllBelow new.next after.trees
  pub of : AreAllOf new.book after.trees
  pub start : AreAllBelow new.next after.start
  pub drawn : AreDrawn log old new before.trees after.trees
  pub separate : AreSeparate before.trees → AreSeparate after.trees
  pub book : new.book ≡ old.book
  pub later : old.next ≤ new.next
  pub few : new.next ≤ old.next + most
