-- What a database holds: for each table of the schema, at the table's place, its rows, rising by
-- `id` key.
use Rattle.std.specs.Prelude.{◌≡◌, ◌⊎◌, ◌≢◌, ◌++◌, ℕ, List, [], ◌∷◌, map, slice_get, true, if◌then◌else◌, codes, ⊤}
use Rattle.std.specs.Prelude.{Option, Some, None, option_map, option_and_then, Ok, Err, Contains}
use Rattle.std.specs.List.Sorted.{IsStrictlySortedBy}
use Rattle.std.specs.Ordering.{match_ordering}
use Rattle.std.specs.Str.{bytes_eq}
use Rattle.mdb_datum.specs.Row.{Fields}
use Rattle.mdb_encode.specs.Bytes.{Bytes, byte_order}
use Rattle.mdb_encode.specs.Keys.{Keyed, keys}
use Rattle.mdb_schema.specs.Schema.{IndexSchema, TableSchema, DbSchema, index_named, table_place}

abbrev pub State : Type 0
State = List (List Fields)

-- nothing is stored in any table
abbrev pub empty_state : DbSchema → State
empty_state s = map (λ t. []) s

-- the keys of a row in the index `id`, or the first rule that it breaks there
abbrev pub id_keys : TableSchema → Fields → Keyed
id_keys t row = keys_in (index_named (codes "id") t.indexes)
  where
    keys_in : Option IndexSchema → Keyed
    keys_in None = Ok []
    keys_in (Some i) = keys i.indexer row

abbrev pub first_key : Keyed → Bytes
first_key (Ok (k ∷ ks)) = k
first_key (Ok []) = []
first_key (Err e) = []

-- the `id` key of a stored row: of one that the index `id` takes
abbrev pub id_key : TableSchema → Fields → Bytes
id_key t row = first_key (id_keys t row)

abbrev pub keys_or_none : Keyed → List Bytes
keys_or_none (Ok ks) = ks
keys_or_none (Err e) = []

-- a unique index stores a key alone, another one the key followed by the row's `id` key
abbrev pub full_key : IndexSchema → Bytes → Bytes → Bytes
full_key i id k = if i.unique then k else k ++ id

-- the keys under which an index stores a row
abbrev pub full_keys : TableSchema → IndexSchema → Fields → List Bytes
full_keys t i row = map (full_key i (id_key t row)) (keys_or_none (keys i.indexer row))

-- the row under an `id` key
abbrev pub row_at : TableSchema → Bytes → List Fields → Option Fields
row_at t id [] = None
row_at t id (r ∷ rs) = if bytes_eq (id_key t r) id then Some r else row_at t id rs

-- the rows with this one in the place of its `id` key: the row that was there is replaced
abbrev pub with_row : TableSchema → Fields → List Fields → List Fields
with_row t row [] = row ∷ []
with_row t row (r ∷ rs) =
    match_ordering (byte_order (id_key t row) (id_key t r))
    (row ∷ r ∷ rs) (row ∷ rs) (r ∷ with_row t row rs)

-- the rows without the one of an `id` key
abbrev pub without_row : TableSchema → Bytes → List Fields → List Fields
without_row t id [] = []
without_row t id (r ∷ rs) = if bytes_eq (id_key t r) id then rs else r ∷ without_row t id rs

-- a table of a database: its place in the schema, what the schema says of it, and its rows
pub record Table : Type 0 where
  pub place : ℕ
  pub schema : TableSchema
  pub rows : List Fields

-- the table of this name
abbrev pub table_at : DbSchema → State → Bytes → Option Table
table_at schema s name = option_and_then at_place (table_place name schema)
  where
    at_place : ℕ → Option Table
    at_place place =
        option_and_then (λ t. option_map (λ rows. record { place = place; schema = t; rows = rows })
        (slice_get s place)) (slice_get schema place)

-- an index takes a row: its keys are no refusal, and there is one where the index doesn't allow a
-- missing key
pub record Takes (row : Fields) (i : IndexSchema) : Type 0 where
  pub found : List Bytes
  pub lawful : keys i.indexer row ≡ Ok found
  pub enough : (i.allow_missing ≡ true) ⊎ (found ≢ [])

-- two rows have a full key in common in an index
abbrev pub SharesKey : TableSchema → IndexSchema → Fields → Fields → Type 0
SharesKey t i row other = (k : Bytes) × Contains (full_keys t i row) k × Contains (full_keys t i other) k

-- the rows of a table are lawful: their `id` keys rise, each index takes each row, and rows that
-- share a full key are one row
pub record AreLawfulRows (t : TableSchema) (rows : List Fields) : Type 0 where
  pub rising : IsStrictlySortedBy byte_order (map (id_key t) rows)
  pub taken : (i : IndexSchema) (row : Fields) → Contains t.indexes i
      → Contains rows row → Takes row i
  pub apart : (i : IndexSchema) (row other : Fields) → Contains t.indexes i
      → Contains rows row → Contains rows other → SharesKey t i row other → row ≡ other

-- a state is lawful: each table of the schema has its rows, and they are lawful
abbrev pub IsLawfulState : DbSchema → State → Type 0
IsLawfulState [] [] = ⊤
IsLawfulState [] (rows ∷ s) = ⊥
IsLawfulState (t ∷ ts) [] = ⊥
IsLawfulState (t ∷ ts) (rows ∷ s) = AreLawfulRows t rows × IsLawfulState ts s
