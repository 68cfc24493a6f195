-- What is true of a transaction that isn't spoiled.
use Rattle.std.specs.Prelude.{◌≡◌, ◌≤◌, ℕ, Bool, true, false, List, []}
use Rattle.watch_word.specs.Logs.{Cell}
use Rattle.radix_node.specs.Ids.{Book}
use Rattle.radix_node.specs.Cells.{AreBelow, AreOf, CellTree, pieces_of}
use Rattle.radix_txn.specs.declared.txn.TreeTxn.TheInside.{Inside}
use Rattle.radix_txn.specs.inner.Steps.{IsStep}

-- the ids of the old tree are below `first`, and from there on ids were drawn for the present one
pub record IsChanged (first : ℕ) (start tree : CellTree) (gone : List Cell) : Type 0 where
  pub below : AreBelow first start
  pub next : ℕ
  pub step : IsStep (λ (c : Cell). Unit {0}) first
      (record { pieces = pieces_of start; next = first; left = [] })
      (record { pieces = pieces_of tree; next = next; left = gone })
  pub root : first ≤ tree.cell.id
  -- the old tree's cells are of one book
  pub book : Book
  pub of : AreOf book start

-- nothing was written, or something was
abbrev pub IsWritten : Bool → ℕ → CellTree → CellTree → List Cell → Type 0
IsWritten false first start tree gone = (start ≡ tree) × (gone ≡ [])
IsWritten true first start tree gone = IsChanged first start tree gone

abbrev pub HoldsUnlessSpoiled : Inside → Type 0
HoldsUnlessSpoiled t =
    let s = t.state in
    t.spoiled ≡ false → IsWritten s.changed s.first t.start s.tree s.left
