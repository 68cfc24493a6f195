-- One write: the state after it with the row that was there, or the first rule that the request
-- breaks. The tests stand in the order in which they are made: the table, then the `id` key, then
-- the keys of each index, then what the other rows allow.
use Rattle.std.specs.Prelude.{◌||◌, ◌&&◌, ℕ, List, [], ◌∷◌, Bool, true, false, map, not, slice_set, codes}
use Rattle.std.specs.Prelude.{Option, Some, Result, Ok, Err}
use Rattle.std.specs.List.{list_any, enumerate_from}
use Rattle.std.specs.Str.{bytes_eq}
use Rattle.mdb_datum.specs.Pairs.{first_item}
use Rattle.mdb_datum.specs.Row.{Fields}
use Rattle.mdb_encode.specs.Bytes.{Bytes}
use Rattle.mdb_encode.specs.KeyRefusal.{KeyRefusal}
use Rattle.mdb_encode.specs.Keys.{Keyed, keys}
use Rattle.mdb_schema.specs.Schema.{IndexSchema, TableSchema, DbSchema, index_place}
use Rattle.mdb_schema.specs.State.{State, Table, table_at, id_keys, id_key, full_key, full_keys, row_at, with_row, without_row}
use Rattle.mdb_schema.specs.Tests.{◌>>=◌, needed, passed, each}

pub data Write : Type 0 where
  -- go-memdb's `Txn.Insert`: the row takes the place of the one with its `id` key, if there is one
  put : Bytes → Fields → Write
  -- go-memdb's `Txn.Delete`: the row with this one's `id` key is taken out
  remove : Bytes → Fields → Write

-- the name of its table
abbrev pub table_of : Write → Bytes
table_of (put name row) = name
table_of (remove name row) = name

-- Why a write is refused. An index is named by its place in the table.
pub data WriteRefusal : Type 0 where
  unknown_table : WriteRefusal
  -- the row has no `id` key
  no_id : WriteRefusal
  -- the row breaks a rule of the index's keys
  bad_key : ℕ → KeyRefusal → WriteRefusal
  -- the row has no key in the index, which doesn't allow that
  missing : ℕ → WriteRefusal
  -- another row has one of the row's full keys in the index
  key_taken : ℕ → WriteRefusal
  -- no row has that `id` key
  not_found : WriteRefusal

abbrev pub Tested : Type 0 → Type 0
Tested A = Result A WriteRefusal

-- the keys of a row in the index at a place, if it breaks no rule there
abbrev pub keys_at : ℕ → Keyed → Tested (List Bytes)
keys_at place (Ok ks) = Ok ks
keys_at place (Err e) = Err (bad_key place e)

-- the `id` key of a row, which has to have one
abbrev pub id_of : TableSchema → Fields → Tested Bytes
id_of t row = do
  place ← needed no_id (index_place (codes "id") t.indexes)
  ks ← keys_at place (id_keys t row)
  needed no_id (first_item ks)

-- an index with its place in the table
abbrev pub Placed : Type 0
Placed = ℕ × IndexSchema

abbrev pub indexes_of : TableSchema → List Placed
indexes_of t = enumerate_from 0 t.indexes

abbrev pub has_key : List Bytes → Bool
has_key [] = false
has_key (k ∷ ks) = true

-- an index takes the row: it breaks no rule, and has a key where the index doesn't allow a missing
-- one
abbrev pub takes : Fields → Placed → Tested (Unit {0})
takes row (place, i) = do
  ks ← keys_at place (keys i.indexer row)
  passed (missing place) (i.allow_missing || has_key ks)

-- the full keys of a row of an `id` key in an index, if the index takes the row
abbrev pub full_keys_at : Bytes → Fields → Placed → Tested (List Bytes)
full_keys_at id row (place, i) = do
  ks ← keys_at place (keys i.indexer row)
  enough ← passed (missing place) (i.allow_missing || has_key ks)
  Ok (map (full_key i id) ks)

-- a key is one of these
abbrev pub is_among : List Bytes → Bytes → Bool
is_among ks k = list_any (bytes_eq k) ks

-- a row with another `id` key has one of these full keys
abbrev pub is_taken_by : TableSchema → IndexSchema → Bytes → List Bytes → Fields → Bool
is_taken_by t i id ks r = not (bytes_eq (id_key t r) id) && list_any (is_among ks) (full_keys t i r)

-- no row with another `id` key has one of the row's full keys in the index
abbrev pub leaves_free : TableSchema → Fields → List Fields → Placed → Tested (Unit {0})
leaves_free t row rows (place, i) =
    passed (key_taken place)
    (not (list_any (is_taken_by t i (id_key t row) (full_keys t i row)) rows))

-- the rows of a table after a write, and the row that was there
abbrev pub Changed : Type 0
Changed = List Fields × Option Fields

-- a row put into the rows of a table; the index `id` passes the second test as it passed the first
abbrev pub put_row : TableSchema → Fields → List Fields → Tested Changed
put_row t row rows = do
  id ← id_of t row
  taken ← each (takes row) (indexes_of t)
  free ← each (leaves_free t row rows) (indexes_of t)
  Ok (with_row t row rows, row_at t id rows)

-- the row of an `id` key taken out of the rows of a table
abbrev pub remove_row : TableSchema → Fields → List Fields → Tested Changed
remove_row t row rows = do
  id ← id_of t row
  old ← needed not_found (row_at t id rows)
  Ok (without_row t id rows, Some old)

abbrev pub Stepped : Type 0
Stepped = Tested (State × Option Fields)

-- a change of the rows of one table
abbrev pub step_in : DbSchema → State → Bytes → (Table → Tested Changed) → Stepped
step_in schema s name change = do
  table ← needed unknown_table (table_at schema s name)
  changed ← change table
  Ok (slice_set s table.place changed.0, changed.1)

abbrev pub step : DbSchema → State → Write → Stepped
step schema s (put name row) = step_in schema s name (λ t. put_row t.schema row t.rows)
step schema s (remove name row) = step_in schema s name (λ t. remove_row t.schema row t.rows)
