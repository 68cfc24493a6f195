-- Pairs of a key and a row, sorted by the key, as a radix tree and an index hold them, and what
-- look-ups, walks and questions take of them.
use Rattle.std.specs.Prelude.{List, [], ◌∷◌, map, reverse, length, nat_lt, if◌then◌else◌, Option, Some, None}
use Rattle.std.specs.FinMap.Entries.{where_key}
use Rattle.std.specs.Ordering.{is_le, is_ge}
use Rattle.mdb_datum.specs.Bytes.{Bytes, byte_order, is_prefix}
use Rattle.mdb_datum.specs.Row.{Fields, Pair}

-- the rows of pairs, in their order
abbrev pub rows_of : List Pair → List Fields
rows_of pairs = map (λ (p : Pair). p.1) pairs

-- the pairs whose key begins with a prefix
abbrev pub with_prefix : Bytes → List Pair → List Pair
with_prefix prefix pairs = where_key byte_order (is_prefix prefix) pairs

-- the pairs of keys at least a key
abbrev pub at_least : Bytes → List Pair → List Pair
at_least key pairs = where_key byte_order (λ k. is_ge (byte_order k key)) pairs

-- the pairs of keys at most a key
abbrev pub at_most : Bytes → List Pair → List Pair
at_most key pairs = where_key byte_order (λ k. is_le (byte_order k key)) pairs

-- the pairs whose key is a prefix of a key
abbrev pub prefixes_of : Bytes → List Pair → List Pair
prefixes_of key pairs = where_key byte_order (λ k. is_prefix k key) pairs

-- of a pair and perhaps another one the one with the longer key
abbrev pub longer : Pair → Option Pair → Pair
longer p None = p
longer p (Some q) = if nat_lt (length p.0) (length q.0) then q else p

-- the pair with the longest key
abbrev pub longest_pair : List Pair → Option Pair
longest_pair [] = None
longest_pair (p ∷ ps) = Some (longer p (longest_pair ps))

-- the first of a list
abbrev pub first_item : {A : Type 0} → List A → Option A
first_item [] = None
first_item (x ∷ xs) = Some x

-- the last of a list
abbrev pub last_item : {A : Type 0} → List A → Option A
last_item xs = first_item (reverse xs)
