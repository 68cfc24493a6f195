-- What a store stands for: after so many commits of a history, and some writes of a transaction, each
-- of its indexes has just the entries of the rows that are seen then.
use Rattle.std.specs.Prelude.{◌≡◌, ◌≤◌, ◌<◌, ◌-◌, ◌↔◌, ℕ, List, [], length, map, take, Option, Some, None, slice_get, Contains}
use Rattle.mdb_datum.specs.Bytes.{Bytes}
use Rattle.mdb_datum.specs.Row.{Fields}
use Rattle.mdb_schema.specs.Entries.{entries}
use Rattle.mdb_schema.specs.History.{Commit, History, after_writes, state_at}
use Rattle.mdb_schema.specs.Schema.{DbSchema, IndexSchema, TableSchema}
use Rattle.mdb_schema.specs.State.{State}
use Rattle.mdb_schema.specs.Touched.{Touch}
use Rattle.mdb_schema.specs.Write.{Write}
use Rattle.run_check.specs.declared.index.Index as index
use Rattle.run_check.specs.declared.sight.Sight.{Sight}
use Rattle.run_check.specs.declared.sight.Own.{Own}
use Rattle.run_check.specs.declared.store.Store as store
pub use Rattle.run_check.specs.inner.IndexView.{pairs_seen}
use Rattle.run_check.specs.inner.IndexView.{KeyVersions, HasVersion, HasOwn, no_keys}
use Rattle.std.specs.declared.alloc.Global.{Global}
use Rattle.std.specs.declared.vec.Vec.{Vec}

-- ---- what is seen of a history and of transactions

-- a write transaction that has begun: the commit on which it stands, and the writes that it has made
pub record Begun : Type 0 where
  pub number : ℕ
  pub writes : List Write

-- the first writes of the transaction of a number, of those that have begun, counted from 1
abbrev pub first_writes : List Begun → Option Own → List Write
first_writes txns None = []
first_writes txns (Some own) = of (slice_get txns (own.txn - 1))
  where
    of : Option Begun → List Write
    of None = []
    of (Some t) = take own.writes t.writes

-- the rows that are seen
abbrev pub state_seen : DbSchema → History → List Begun → Sight → State
state_seen schema H txns s = after_writes schema (state_at schema H s.commits) (first_writes txns s.own)

-- a sight of commits that are there and, if it is of a transaction, of one that has begun on just
-- these, with no more writes than that has made
pub record IsSightOf (H : History) (txns : List Begun) (s : Sight) : Type 0 where
  pub there : s.commits ≤ length H
  pub own : (x : Own) → s.own ≡ Some x → (0 < x.txn) × (t : Begun) × (slice_get txns (x.txn - 1) ≡ Some t)
      × (t.number ≡ s.commits) × (x.writes ≤ length t.writes)

-- ---- an index

-- a commit of this history wrote a key of an index
abbrev pub Wrote : DbSchema → History → TableSchema → IndexSchema → ℕ → Bytes → Type 0
Wrote schema H t i j key =
    (0 < j) × (c : Commit) × (slice_get H (j - 1) ≡ Some c)
    × Touch schema (state_at schema H (j - 1)) c.writes t i key

-- an index stands for a history and for the transactions that have begun
pub record IsIndexOf (schema : DbSchema) (H : History) (txns : List Begun) (place : ℕ)
    (t : TableSchema) (i : IndexSchema) (x : KeyVersions) : Type 0 where
  pub seen : (s : Sight) (rows : List Fields) → IsSightOf H txns s
      → slice_get (state_seen schema H txns s) place ≡ Some rows
      → pairs_seen s x.slots ≡ entries t i rows
  pub written : (key : Bytes) (j : ℕ) → HasVersion x key j ↔ Wrote schema H t i j key
  pub own : (key : Bytes) (o : Own) → HasOwn x key o → (0 < o.txn) × (b : Begun)
      × (slice_get txns (o.txn - 1) ≡ Some b) × (o.writes < length b.writes)
  pub touched : (j : ℕ) → Contains x.touched j ↔ ((key : Bytes) × Wrote schema H t i j key)

-- ---- the whole

abbrev pub indexes_at : store.Store → ℕ → List index.Index
indexes_at st place = items_of (slice_get st.tables.items place)
  where
    items_of : Option (Vec index.Index Global) → List index.Index
    items_of None = []
    items_of (Some v) = v.items

-- the indexes of each table
abbrev pub indexes_of : store.Store → List (List index.Index)
indexes_of st = map (λ (v : Vec index.Index Global). v.items) st.tables.items

-- those of a table in which nothing has stood
abbrev pub empty_indexes : TableSchema → List index.Index
empty_indexes t = map (λ i. no_keys) t.indexes

-- a store stands for a history, and for the write transactions that have begun in the check
pub record StandsFor (schema : DbSchema) (H : History) (txns : List Begun) (st : store.Store)
    : Type 0 where
  pub tables : length st.tables.items ≡ length schema
  pub indexes : (place : ℕ) (t : TableSchema) → slice_get schema place ≡ Some t
      → length (indexes_at st place) ≡ length t.indexes
  pub each : (place at : ℕ) (t : TableSchema) (i : IndexSchema) (x : index.Index)
      → slice_get schema place ≡ Some t → slice_get t.indexes at ≡ Some i
      → slice_get (indexes_at st place) at ≡ Some x → IsIndexOf schema H txns place t i x
