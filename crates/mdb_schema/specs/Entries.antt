-- The entries of an index: all pairs of a full key and its row, sorted by the key, without repeats.
-- In lawful rows no two share a full key; where rows do, the entry is the first one's.
use Rattle.std.specs.Prelude.{List, [], ◌∷◌}
use Rattle.std.specs.FinMap as finite
use Rattle.mdb_datum.specs.Row.{Fields, Pair}
use Rattle.mdb_encode.specs.Bytes.{Bytes, byte_order}
use Rattle.mdb_schema.specs.Schema.{IndexSchema, TableSchema}
use Rattle.mdb_schema.specs.State.{full_keys}

-- an entry for each of these keys of a row
abbrev pub with_entries : List Bytes → Fields → List Pair → List Pair
with_entries [] row es = es
with_entries (k ∷ ks) row es = finite.put byte_order k row (with_entries ks row es)

-- made anew from the rows
abbrev pub entries : TableSchema → IndexSchema → List Fields → List Pair
entries t i [] = []
entries t i (r ∷ rs) = with_entries (full_keys t i r) r (entries t i rs)
