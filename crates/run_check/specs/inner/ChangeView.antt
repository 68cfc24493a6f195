-- What a commit is told to have changed, by the keys that its transaction has written: the byte of a
-- table's place, and then an `id` key.
use Rattle.std.specs.Prelude.{◌≡◌, ◌++◌, ℕ, List, [], ◌∷◌, length, Option, Some, None, if◌then◌else◌, slice_get, true, Contains}
use Rattle.mdb_datum.specs.Bytes.{Bytes}
use Rattle.mdb_datum.specs.Row.{Fields}
use Rattle.mdb_schema.specs.Net.{differ}
use Rattle.mdb_schema.specs.Schema.{DbSchema, TableSchema}
use Rattle.mdb_schema.specs.State.{State, row_at}
use Rattle.client_script.specs.Reply.{Changed}
use Rattle.client_script.specs.Turn.{name_of}
use Rattle.run_check.specs.declared.sight.Sight.{Sight}
use Rattle.run_check.specs.declared.store.Store as store
use Rattle.run_check.specs.inner.EditView.{AreSeen}
use Rattle.run_check.specs.inner.StoreView.{indexes_at}

-- ---- what is seen of a store

-- the rows of a state are those that each table's indexes show
pub record ShowsState (schema : DbSchema) (state : State) (s : Sight) (st : store.Store) : Type 0 where
  pub tables : length state ≡ length schema
  pub each : (place : ℕ) (t : TableSchema) (rows : List Fields) → slice_get schema place ≡ Some t
      → slice_get state place ≡ Some rows → AreSeen t rows s (indexes_at st place)

-- ---- a change of one row

-- the row of an `id` key, where there is a table with rows
abbrev pub row_of : Bytes → Option TableSchema → Option (List Fields) → Option Fields
row_of id None rows = None
row_of id (Some t) None = None
row_of id (Some t) (Some rows) = row_at t id rows

-- the same in the table at a place
abbrev pub row_in : DbSchema → State → ℕ → Bytes → Option Fields
row_in schema state place id = row_of id (slice_get schema place) (slice_get state place)

-- what became of a row of a table, where that differs
abbrev pub told_change : Bytes → Option Fields → Option Fields → List Changed
told_change table before after =
    if differ before after then record { table = table; before = before; after = after } ∷ [] else []

-- what became of the row of a key
abbrev pub change_of : DbSchema → State → State → Bytes → List Changed
change_of schema old new [] = []
change_of schema old new (place ∷ id) =
    told_change (name_of (slice_get schema place)) (row_in schema old place id) (row_in schema new place id)

abbrev pub changes_of : DbSchema → State → State → List Bytes → List Changed
changes_of schema old new [] = []
changes_of schema old new (k ∷ ks) = change_of schema old new k ++ changes_of schema old new ks

-- ---- which keys there are

-- keys of tracked tables
abbrev pub AreTracked : DbSchema → List Bytes → Type 0
AreTracked schema ks =
    (k : Bytes) → Contains ks k → (place : ℕ) × (id : Bytes) × (k ≡ place ∷ id) × (t : TableSchema)
    × (slice_get schema place ≡ Some t) × (t.tracked ≡ true)

-- each row of such a table that differs has its key among them
abbrev pub CoverChanges : DbSchema → State → State → List Bytes → Type 0
CoverChanges schema old new ks =
    (place : ℕ) (id : Bytes) (t : TableSchema) → slice_get schema place ≡ Some t → t.tracked ≡ true
    → differ (row_in schema old place id) (row_in schema new place id) ≡ true
    → Contains ks (place ∷ id)
