-- A map from keys to rows as the list of its pairs, in the byte order of the keys.
use Rattle.std.specs.Prelude.{not, List, Option, IsTrue}
use Rattle.std.specs.FinMap as map
use Rattle.std.specs.FinMap.Entries.{where_key}
use Rattle.std.specs.Ordering.{eq_by_cmp}
use Rattle.mdb_datum.specs.Bytes.{Bytes, byte_order, is_prefix}
use Rattle.mdb_datum.specs.Row.{Fields, Pair}
pub use Rattle.mdb_datum.specs.Pairs.{with_prefix}

-- each key is below the later ones, so that no key stands twice
abbrev pub IsRising : List Pair → Type 0
IsRising pairs = IsTrue (map.is_sorted byte_order pairs)

-- the row under a key
abbrev pub find : Bytes → List Pair → Option Fields
find key pairs = map.find byte_order key pairs

-- the pairs with a row under a key: in place of the row that is there, or as a new pair in the
-- order of the keys
abbrev pub put : Bytes → Fields → List Pair → List Pair
put key row pairs = map.put byte_order key row pairs

-- the pairs of the other keys
abbrev pub without : Bytes → List Pair → List Pair
without key pairs = where_key byte_order (λ k. not (eq_by_cmp byte_order key k)) pairs

-- the pairs of the keys that don't begin with a prefix
abbrev pub without_prefix : Bytes → List Pair → List Pair
without_prefix prefix pairs = where_key byte_order (λ k. not (is_prefix prefix k)) pairs
