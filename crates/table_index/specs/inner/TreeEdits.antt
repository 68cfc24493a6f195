-- What a write does to the trees of a table, one after another.
use Rattle.std.specs.Prelude.{◌≡◌, ◌⊎◌, ℕ, Bool, true, false, List, [], ◌∷◌, Option, is_some, Ok, Err}
use Rattle.std.specs.List.{zip}
use Rattle.mdb_datum.specs.Row.{Fields, Pair}
use Rattle.mdb_encode.specs.Bytes.{Bytes}
use Rattle.mdb_schema.specs.ErrorsTold.{write_error}
use Rattle.mdb_schema.specs.Schema.{TableSchema}
use Rattle.mdb_schema.specs.Write.{Tested, Changed, WriteRefusal}
use Rattle.mdb_schema.specs.Edits.{put_all, stale_keys, without_all}
use Rattle.mdb_schema.specs.declared.write_error.WriteError.{WriteError}
use Rattle.mdb_schema.specs.declared.write_error.WriteError.TheVariants.{Memory, IdsSpent}
use Rattle.radix_txn.specs.Txn.{Txn}
use Rattle.table_index.specs.Table.{AreSpent}
use Rattle.table_index.specs.inner.IndexTrees.{AreSound, AreTrees, nodes_of, rows_held}

-- each tree edited by what stands at its place
abbrev pub edited_each : {K : Type 0} → (K → List Pair → List Pair) → List K → List (List Pair)
    → List (List Pair)
edited_each edit [] es = []
edited_each edit (k ∷ ks) [] = []
edited_each edit (k ∷ ks) (e ∷ es) = edit k e ∷ edited_each edit ks es

-- each tree without the keys at its place
abbrev pub without_each : List (List Bytes) → List (List Pair) → List (List Pair)
without_each kss es = edited_each without_all kss es

-- the full keys of a row in an index, and those of the row that it replaces
abbrev pub NewAndOld : Type 0
NewAndOld = List Bytes × List Bytes

-- a tree with a row under its full keys, and without those that only the replaced row has
abbrev pub replaced_in : Fields → NewAndOld → List Pair → List Pair
replaced_in row ks es = put_all ks.0 row (without_all (stale_keys ks.0 ks.1) es)

-- each tree so, by the full keys at its place
abbrev pub replaced_each : Fields → List (List Bytes) → List (List Bytes) → List (List Pair)
    → List (List Pair)
replaced_each row new old es = edited_each (replaced_in row) (zip new old) es

-- the error is want of memory
abbrev pub is_memory : WriteError → Bool
is_memory Memory = true
is_memory e = false

-- the trees hold the rows that a write leaves, and this is the row that was there
pub record IsWritten (t : TableSchema) (told : Tested Changed) (old : Option Fields)
    (after : List Txn) : Type 0 where
  pub left : List Fields
  pub done : told ≡ Ok (left, old)
  pub held : AreTrees t (nodes_of after)
  pub rows : rows_held t (nodes_of after) ≡ left
  pub sound : AreSound after

-- the trees hold the rows that a put leaves, and this is whether there was a row
abbrev pub IsPut : TableSchema → Tested Changed → Bool → List Txn → Type 0
IsPut t told replaced after =
    (old : Option Fields) × (replaced ≡ is_some old) × IsWritten t told old after

-- no rule refuses the write of a row, but there are too few ids for it, and nothing has changed
pub record IsShortOfIds (next : ℕ) (told : Tested Changed) (e : WriteError)
    (before after : List Txn) : Type 0 where
  pub changed : Changed
  pub done : told ≡ Ok changed
  pub few : AreSpent next 1
  pub error : e ≡ IdsSpent
  pub same : after ≡ before

-- the error is want of memory, or of ids; or it tells the refusal, and nothing has changed
abbrev pub IsRefused : ℕ → Tested Changed → WriteError → List Txn → List Txn → Type 0
IsRefused next told e before after =
    (e ≡ Memory) ⊎ (IsShortOfIds next told e before after
    ⊎ ((why : WriteRefusal) × (told ≡ Err why) × (e ≡ write_error why) × (after ≡ before)))
