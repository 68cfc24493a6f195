-- What the transaction of an index does to its entries: keys are taken out and put in, one after
-- the other.
use Rattle.std.specs.Prelude.{List, [], ◌∷◌, Option, Some, None, not, filter}
use Rattle.std.specs.FinMap as finite
use Rattle.std.specs.FinMap.Entries.{where_key}
use Rattle.std.specs.Ordering.{eq_by_cmp}
use Rattle.mdb_datum.specs.Row.{Fields, Pair}
use Rattle.mdb_encode.specs.Bytes.{Bytes, byte_order}
use Rattle.mdb_schema.specs.Schema.{IndexSchema, TableSchema}
use Rattle.mdb_schema.specs.State.{full_keys}
use Rattle.mdb_schema.specs.Write.{is_among}

-- the entries of the other keys
abbrev pub without : Bytes → List Pair → List Pair
without key es = where_key byte_order (λ k. not (eq_by_cmp byte_order key k)) es

-- the entries after each of these keys is taken out, from the left
abbrev pub without_all : List Bytes → List Pair → List Pair
without_all [] es = es
without_all (k ∷ ks) es = without_all ks (without k es)

-- the entries after a row is put under each of these keys, from the left
abbrev pub put_all : List Bytes → Fields → List Pair → List Pair
put_all [] row es = es
put_all (k ∷ ks) row es = put_all ks row (finite.put byte_order k row es)

-- the full keys of a row, if there is one
abbrev pub full_keys_of : TableSchema → IndexSchema → Option Fields → List Bytes
full_keys_of t i None = []
full_keys_of t i (Some row) = full_keys t i row

-- the full keys of a row that was there, without those that the row in its place has too
abbrev pub stale_keys : List Bytes → List Bytes → List Bytes
stale_keys new old = filter (λ k. not (is_among new k)) old
