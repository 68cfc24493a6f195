-- What a put of a pair does to a node, in place or by a copy.
use Rattle.std.specs.Prelude.{◌≡◌, ◌+◌, ◌≤◌, ℕ, ◌∷◌, [], ◌++◌, Option, Some, length, take, drop}
use Rattle.std.specs.List.{slice_get}
use Rattle.mdb_datum.specs.Bytes.{Bytes}
use Rattle.mdb_datum.specs.Row.{Fields, Pair}
use Rattle.radix_node.specs.Cells.{CellNode, cells_in}
use Rattle.radix_node.specs.Node.{below}
use Rattle.radix_node.specs.Nodes.{part}
use Rattle.radix_node.specs.Seek.{found, seek, seek_plain}
use Rattle.radix_node.specs.Siblings.{bare, cells_list}
use Rattle.radix_txn.specs.declared.target.Target.TheVariants.{Key}
use Rattle.radix_txn.specs.inner.Below.{insert_below, over, row_in}
use Rattle.radix_txn.specs.inner.Outside.{AllIn, outside, outside_node, staying}
use Rattle.radix_txn.specs.inner.Pieces.{inside, led, whole}
use Rattle.radix_txn.specs.inner.PutAt.{grown_node}
use Rattle.radix_txn.specs.inner.Steps.{Ledger, IsOnward, Steps}

-- where the rest of the key begins at the node's end
pub record IsPut (pair : Pair) (rest : Bytes) (n m : CellNode) (row : Option Fields) (a b : Ledger) : Type 0 where
  pub plain : bare m ≡ over (bare n) (insert_below pair rest (below (bare n)))
  pub old : row ≡ row_in (seek_plain rest (below (bare n)))
  pub steps : (front : Bytes) → Steps (whole (led front n)) a (whole (led front m)) b
  pub stays : AllIn (outside_node Key rest n) (inside m)
  pub low : a.first ≤ m.cell.id
  pub few : b.next ≤ a.next + length rest + 3
  pub onward : IsOnward a b

-- and where it begins at the node's prefix
pub record IsPutUnder (pair : Pair) (rest : Bytes) (n m : CellNode) (row : Option Fields) (a b : Ledger) : Type 0 where
  pub plain : bare m ≡ grown_node pair rest (bare n)
  pub old : let k = bare n in let parts = part k.prefix rest in row ≡ row_in (found parts.1 parts.2 k.leaf (seek parts.2 k.under))
  pub steps : (front : Bytes) → Steps (whole (led front n)) a (whole (led front m)) b
  pub stays : let parts = part n.prefix rest in AllIn (staying Key parts.1 parts.2 n.leaf n.under (outside Key parts.2 n.under)) (inside m)
  pub few : b.next ≤ a.next + length rest + 3
  pub onward : IsOnward a b

-- where the node at an edge is changed
pub record IsPutAt (pair : Pair) (at : ℕ) (rest : Bytes) (n m : CellNode) (row : Option Fields) (a b : Ledger) : Type 0 where
  pub label : ℕ
  pub child : CellNode
  pub grown : CellNode
  pub there : slice_get (cells_list n.under) at ≡ Some (led (label ∷ []) child)
  pub node : let es = cells_list n.under in m ≡ record { cell = n.cell; prefix = n.prefix; leaf = n.leaf; under = cells_in (take at es ++ led (label ∷ []) grown ∷ drop (at + 1) es) }
  pub put : IsPutUnder pair rest child grown row a b
