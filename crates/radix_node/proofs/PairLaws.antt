-- What `put` does to `find`, to the length and to the order.
use Rattle.std.proofs.Common.{◌≡◌, ◌+◌, ℕ, true, List, length, if◌then◌else◌, Some, is_some, is_eq, ◌∷◌}
use Rattle.std.proofs.lemmas.Bool.{and_parts}
use Rattle.std.specs.FinMap.Entries as entries
use Rattle.mdb_datum.specs.Bytes.{byte_order}
use Rattle.mdb_datum.specs.Row.{Fields, Pair}
use Rattle.radix_node.specs.Pairs.{IsRising, find, put}
use Rattle.mdb_datum.proofs.ByteOrder.{byte_order_total, same_from_byte_order, T_from_true}

-- a look-up after a change
pub find-put : (q key : List ℕ) (row : Fields) (pairs : List Pair) → find q (put key row pairs) ≡ (if is_eq (byte_order q key) then Some row else find q pairs)
find-put q key row pairs = entries.find-put byte_order byte_order_total q key row pairs

-- a new key makes one pair more
pub length-put : (key : List ℕ) (row : Fields) (pairs : List Pair) → IsRising pairs → length (put key row pairs) ≡ (if is_some (find key pairs) then length pairs else length pairs + 1)
length-put key row pairs rising = entries.length-put byte_order byte_order_total key row pairs (T_from_true _ rising)

-- pairs whose keys rise are told by what is found in them
pub same_pairs : (xs ys : List Pair) → IsRising xs → IsRising ys → ((q : List ℕ) → find q xs ≡ find q ys) → xs ≡ ys
same_pairs xs ys f g same = entries.same_entries byte_order byte_order_total same_from_byte_order xs ys (T_from_true _ f) (T_from_true _ g) same

-- the first key is below each later one
pub below_rest : (p : Pair) (ps : List Pair) → IsRising (p ∷ ps) → entries.below_all byte_order p.0 ps ≡ true
below_rest p ps h = (and_parts _ _ h).0

pub rising_rest : (p : Pair) (ps : List Pair) → IsRising (p ∷ ps) → IsRising ps
rising_rest p ps h = (and_parts _ _ h).1
