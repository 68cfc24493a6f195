-- What a write asks of the ids for new cells, and what it draws of them.
use Rattle.std.specs.Prelude.{◌≡◌, ◌≤◌, ◌+◌, ◌^◌, ℕ, false}
use Rattle.watch_word.specs.Logs.{Log}
use Rattle.radix_node.specs.Cells.{AreBelow, AreOf}
use Rattle.radix_node.specs.Ids.{Counter}
use Rattle.radix_txn.specs.Notice.{IsDrawn}
use Rattle.radix_txn.specs.Txn.{Txn}

-- all cells of a transaction's trees have ids that were drawn, and those of the present tree are of
-- the counter's book
pub record IsWithin (ids : Counter) (x : Txn) : Type 0 where
  pub start : AreBelow ids.next x.start
  pub tree : AreBelow ids.next x.tree
  pub of : AreOf ids.book x.tree

-- a tree may be written, with cells of the front's book, and so many ids are left for them
pub record IsReady (most : ℕ) (front : Log) (ids : Counter) (x : Txn) : Type 0 where
  pub sound : x.spoiled ≡ false
  pub book : front.book ≡ ids.book
  pub within : IsWithin ids x
  pub left : ids.next + most ≤ 2 ^ 63

-- writes of a tree drew so many ids at most, for cells that aren't in a log
pub record HasDrawn (log : Log) (most : ℕ) (old new : Counter) (before after : Txn) : Type 0 where
  pub start : after.start ≡ before.start
  pub within : IsWithin new after
  pub drawn : IsDrawn log old new before.tree after.tree
  pub book : new.book ≡ old.book
  pub later : old.next ≤ new.next
  pub few : new.next ≤ old.next + most
