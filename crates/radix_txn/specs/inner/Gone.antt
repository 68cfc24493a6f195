-- What a delete does to a node, in place or by what is to come in its place.
use Rattle.std.specs.Prelude.{◌≡◌, ◌+◌, ◌≤◌, ℕ, Bool, true, false, [], ◌∷◌, Option, Some, None, Ok, length}
use Rattle.std.specs.List.{slice_get}
use Rattle.mdb_datum.specs.Bytes.{Bytes}
use Rattle.mdb_datum.specs.Row.{Fields}
use Rattle.radix_node.specs.Cells.{CellNode, node_pieces, no_cells, plain_nodes}
use Rattle.radix_node.specs.Edges.{place_of}
use Rattle.radix_node.specs.Node.{below, rest_past}
use Rattle.radix_node.specs.Siblings.{bare, cells_list, nodes_list}
use Rattle.radix_txn.specs.declared.remains.Remains.{Remains}
use Rattle.radix_txn.specs.declared.remove.Removed.{Removed}
use Rattle.radix_txn.specs.declared.remove.owned.Gone.{Gone}
use Rattle.radix_txn.specs.declared.remove.owned.Gone.TheVariants.{Left, Missing, Under}
use Rattle.radix_txn.specs.declared.target.Target.{Target}
use Rattle.radix_txn.specs.inner.Below.{settled_node}
use Rattle.radix_txn.specs.inner.Outside.{AllIn, outside_node}
use Rattle.radix_txn.specs.inner.Pieces.{inside, led, whole}
use Rattle.radix_txn.specs.inner.Removal.{IsMissing, IsRemoval}
use Rattle.radix_txn.specs.inner.Remains.{pieces_left, remains_of, stays_left}
use Rattle.radix_txn.specs.inner.Steps.{IsOnward, Ledger, Steps}

-- there is no such key, and the node is as it was
pub record HasNone (target : Target) (rest : Bytes) (n m : CellNode) (a b : Ledger) : Type 0 where
  pub missing : IsMissing target rest (below (bare n))
  pub same : m ≡ n
  pub still : b ≡ a

-- the keys are taken out, and another node is in the place of the old one, or the same one is changed
pub record IsCut (target : Target) (rest : Bytes) (n m : CellNode) (row : Option Fields) (count : ℕ) (a b : Ledger) : Type 0 where
  pub removal : IsRemoval target rest (below (bare n)) (below (bare m)) row count
  pub prefix : m.prefix ≡ n.prefix
  pub steps : (front : Bytes) → Steps (whole (led front n)) a (whole (led front m)) b
  pub stays : AllIn (outside_node target rest n) (inside m)
  pub low : a.first ≤ m.cell.id
  pub few : b.next ≤ a.next + length rest + 1
  pub onward : IsOnward a b

-- only nodes under it change, so that it stands as it did
pub record IsCutUnder (target : Target) (rest : Bytes) (n m : CellNode) (row : Option Fields) (count : ℕ) (a b : Ledger) : Type 0 where
  pub cut : IsCut target rest n m row count a b
  pub leaf : m.leaf ≡ n.leaf
  pub width : length (cells_list m.under) ≡ length (cells_list n.under)
  pub few : b.next ≤ a.next + length rest

-- the node is as it was, and this is to come in its place
pub record IsLeft (target : Target) (rest : Bytes) (n m : CellNode) (r : Removed) (a b : Ledger) : Type 0 where
  pub same : m ≡ n
  pub removal : IsRemoval target rest (below (bare n)) (remains_of r.remains) r.row r.count
  pub steps : (front : Bytes) → Steps (whole (led front n)) a (pieces_left r.remains) b
  pub stays : AllIn (outside_node target rest n) (stays_left r.remains)
  pub few : b.next ≤ a.next + length rest
  pub onward : IsOnward a b

abbrev pub IsGone : Target → Bytes → CellNode → CellNode → Gone → Ledger → Ledger → Type 0
IsGone target rest n m Missing a b = HasNone target rest n m a b
IsGone target rest n m (Under d) a b = IsCutUnder target rest n m d.row d.count a b
IsGone target rest n m (Left r) a b = IsLeft target rest n m r a b

-- the walk goes on by the edge at a place, with what is left of the rest after the node there
pub record LeadsOn (at : ℕ) (left rest : Bytes) (n : CellNode) : Type 0 where
  pub label : ℕ
  pub after : Bytes
  pub child : CellNode
  pub first : rest ≡ label ∷ after
  pub place : Ok at ≡ place_of label (nodes_list (plain_nodes n.under))
  pub there : slice_get (cells_list n.under) at ≡ Some (led (label ∷ []) child)
  pub past : Some left ≡ rest_past child.prefix after

-- what is left of a node is a node, which comes in its place
pub record IsStanding (n m : CellNode) (r : Remains) (a b : Ledger) : Type 0 where
  pub plain : let t = remains_of r in settled_node n.prefix t.leaf t.nodes ≡ Some (bare m)
  pub steps : (front : Bytes) → Steps (pieces_left r) a (whole (led front m)) b
  pub stays : AllIn (stays_left r) (inside m)
  pub few : b.next ≤ a.next + 1
  pub onward : IsOnward a b

-- or it is nothing
pub record IsVoid (n m : CellNode) (r : Remains) (a b : Ledger) : Type 0 where
  pub same : m ≡ n
  pub plain : let t = remains_of r in settled_node n.prefix t.leaf t.nodes ≡ None
  pub steps : Steps (pieces_left r) a (node_pieces no_cells) b
  pub stays : AllIn (stays_left r) []
  pub few : b.next ≤ a.next + 1
  pub onward : IsOnward a b

abbrev pub IsSettled : Bool → CellNode → CellNode → Remains → Ledger → Ledger → Type 0
IsSettled true n m r a b = IsStanding n m r a b
IsSettled false n m r a b = IsVoid n m r a b
