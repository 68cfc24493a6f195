-- What one write more makes of a history, or of a transaction, and of what is seen of them.
use Rattle.std.specs.Prelude.{◌≡◌, ◌≢◌, ◌<◌, ◌-◌, ◌⊎◌, ◌↔◌, ℕ, List, true, false, length, Some, slice_get}
use Rattle.mdb_datum.specs.Bytes.{Bytes}
use Rattle.mdb_datum.specs.Row.{Fields}
use Rattle.mdb_schema.specs.History.{History, state_or}
use Rattle.mdb_schema.specs.Schema.{DbSchema, IndexSchema, TableSchema}
use Rattle.mdb_schema.specs.State.{State}
use Rattle.mdb_schema.specs.Touched.{rows_of_step}
use Rattle.mdb_schema.specs.Write.{Write, step}
use Rattle.run_check.specs.declared.sight.Own.{Own}
use Rattle.run_check.specs.declared.sight.Sight.{Sight}
use Rattle.run_check.specs.declared.sight.Stamp.{Stamp}
use Rattle.run_check.specs.declared.store.Store as store
use Rattle.run_check.specs.inner.EditView.{IsKeyOfAny, seen_of}
use Rattle.run_check.specs.inner.IndexView.{IsCommit, IsOwn, KeyVersions, sees}
use Rattle.run_check.specs.inner.StoreView.{Begun, IsIndexOf, IsSightOf, Wrote, indexes_at, state_seen}

-- a write of this transaction has been made
abbrev pub IsMade : List Begun → Own → Type 0
IsMade txns o = (0 < o.txn) × (b : Begun) × (slice_get txns (o.txn - 1) ≡ Some b) × (o.writes < length b.writes)

-- what a write makes of the state on which it is made
abbrev pub stepped_by : DbSchema → State → Write → State
stepped_by schema base w = state_or base (step schema base w)

-- the rows that it puts in and takes out, in the table of a name
abbrev pub rows_touched : DbSchema → State → Write → Bytes → List Fields
rows_touched schema base w name = rows_of_step name w (step schema base w)

-- a sight doesn't have the write in it: it sees what it saw
pub record IsUnseen (schema : DbSchema) (H : History) (txns : List Begun) (H' : History)
    (txns' : List Begun) (stamp : Stamp) (s : Sight) : Type 0 where
  pub unseen : sees s stamp ≡ false
  pub sight : IsSightOf H txns s
  pub same : state_seen schema H' txns' s ≡ state_seen schema H txns s

-- a sight has it: it sees the write after what another sight saw, which was the same in each index
pub record IsNowSeen (schema : DbSchema) (H : History) (txns : List Begun) (H' : History)
    (txns' : List Begun) (stamp : Stamp) (base : State) (w : Write) (s : Sight) : Type 0 where
  pub seen : sees s stamp ≡ true
  pub before : Sight
  pub sight : IsSightOf H txns before
  pub base_seen : state_seen schema H txns before ≡ base
  pub now : state_seen schema H' txns' s ≡ stepped_by schema base w
  pub same : (place : ℕ) (t : TableSchema) (i : IndexSchema) (x : KeyVersions)
      → IsIndexOf schema H txns place t i x → seen_of s x ≡ seen_of before x

-- the write of this stamp, made on a state, is all that is new
pub record IsGrown (schema : DbSchema) (H : History) (txns : List Begun) (H' : History)
    (txns' : List Begun) (stamp : Stamp) (base : State) (w : Write) : Type 0 where
  pub sights : (s : Sight) → IsSightOf H' txns' s
      → IsUnseen schema H txns H' txns' stamp s ⊎ IsNowSeen schema H txns H' txns' stamp base w s
  pub wrote : (t : TableSchema) (i : IndexSchema) (j : ℕ) (key : Bytes) → Wrote schema H' t i j key
      ↔ (Wrote schema H t i j key
      ⊎ (IsKeyOfAny t i (rows_touched schema base w t.name) key × IsCommit stamp j))
  pub own : (o : Own) → IsMade txns o ⊎ IsOwn stamp o → IsMade txns' o

-- ---- in a store

-- the indexes of the table at a place are these, and those of the others are as they were
pub record IsWrittenAt (place : ℕ) (ys : List KeyVersions) (old new : store.Store) : Type 0 where
  pub tables : length new.tables.items ≡ length old.tables.items
  pub here : indexes_at new place ≡ ys
  pub others : (other : ℕ) → other ≢ place → indexes_at new other ≡ indexes_at old other
