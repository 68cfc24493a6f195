-- What writes of the trees of a table draw of the ids, and what they leave of the trees' cells.
use Rattle.std.specs.Prelude.{◌≡◌, ◌≤◌, ◌+◌, ◌^◌, ℕ, Bool, All, List, if◌then◌else◌}
use Rattle.watch_word.specs.Logs.{Log}
use Rattle.radix_node.specs.Ids.{Counter}
use Rattle.radix_txn.specs.Drawn.{IsWithin}
use Rattle.radix_txn.specs.Txn.{Txn}
use Rattle.table_index.specs.Table.{AreDrawn, AreSeparate}
use Rattle.table_index.specs.inner.IndexTrees.{AreSound, starts_of, trees_of}

-- the trees of a table may be written, with ids of cells of the front's book
pub record AreReady (front : Log) (ids : Counter) (txns : List Txn) : Type 0 where
  pub sound : AreSound txns
  pub book : front.book ≡ ids.book
  pub within : All (IsWithin ids) txns

-- writes of them drew so many ids at most, for cells that aren't in a log
pub record HaveDrawn (log : Log) (most : ℕ) (old new : Counter) (before after : List Txn)
    : Type 0 where
  pub start : starts_of after ≡ starts_of before
  pub within : All (IsWithin new) after
  pub drawn : AreDrawn log old new (trees_of before) (trees_of after)
  pub separate : AreSeparate (trees_of before) → AreSeparate (trees_of after)
  pub book : new.book ≡ old.book
  pub later : old.next ≤ new.next
  pub few : new.next ≤ old.next + most

-- how many ids the removal of a listed row draws, if the row is still there
abbrev pub ids_of_row : Bool → ℕ
ids_of_row there = if there then 2 ^ 25 else 0
