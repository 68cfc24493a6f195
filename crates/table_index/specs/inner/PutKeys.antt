-- The keys that a put takes out and puts in, and whether other rows have some of them.
use Rattle.std.specs.Prelude.{◌≡◌, ◌&&◌, ◌+◌, ℕ, Bool, not, List, [], ◌∷◌, map, if◌then◌else◌, Option, Some, None, is_some, Ok}
use Rattle.std.specs.List.{list_any}
use Rattle.mdb_datum.specs.Row.{Fields, Pair}
use Rattle.mdb_encode.specs.Bytes.{Bytes}
use Rattle.mdb_schema.specs.Schema.{IndexSchema, TableSchema}
use Rattle.mdb_schema.specs.Write.{Changed, is_among, put_row}
use Rattle.mdb_schema.specs.Edits.{full_keys_of}
use Rattle.radix_node.specs.Pairs.{find}
use Rattle.table_index.specs.inner.TreeEdits.{NewAndOld}

-- a tree holds one of the new keys that is none of the old ones
abbrev pub has_taken : NewAndOld → List Pair → Bool
has_taken ks es = list_any (λ k. not (is_among ks.1 k) && is_some (find k es)) ks.0

-- the place of the first tree that does, where the first has this place
abbrev pub first_taken : ℕ → List NewAndOld → List (List Pair) → Option ℕ
first_taken place [] es = None
first_taken place (ks ∷ kss) [] = None
first_taken place (ks ∷ kss) (e ∷ es) =
    if has_taken ks e then Some place else first_taken (place + 1) kss es

-- the full keys of a row in each index; of no row there are none
abbrev pub keys_of_each : TableSchema → Option Fields → List (List Bytes)
keys_of_each t row = map (λ (i : IndexSchema). full_keys_of t i row) t.indexes

-- a put is accepted, and these are the full keys of the row and of the one that it replaces
pub record IsAccepted (t : TableSchema) (row : Fields) (rows : List Fields)
    (new old : List (List Bytes)) (replaced : Bool) : Type 0 where
  pub changed : Changed
  pub done : put_row t row rows ≡ Ok changed
  pub new_keys : new ≡ keys_of_each t (Some row)
  pub old_keys : old ≡ keys_of_each t changed.1
  pub there : replaced ≡ is_some changed.1
