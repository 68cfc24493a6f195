-- The keys of a row in an index, or the first rule that the row breaks. No key: the row has none in
-- this index.
-- The sources are go-memdb's indexers, and RFC 9562 for UUIDs.
use Rattle.std.specs.Prelude.{◌∷◌, [], ◌++◌, ℕ, zero, suc, ℤ, pos, negsuc, ◌+ℤ◌, ◌/◌, ◌%◌, ◌^◌, List, length, Bool, true, false, not, nat_lt, if◌then◌else◌, Option, Some, None, unwrap_or, Result, Ok, Err}
use Rattle.std.specs.List.{list_any}
use Rattle.std.specs.Ordering.{int_eq}
use Rattle.std.specs.Str.{bytes_eq, str_to_ascii_lowercase}
use Rattle.uuid.specs.Text.{parsed_hyphenated}
use Rattle.mdb_datum.specs.Doc.{Doc, nil, flag, whole, text, list, object, DocList, no_docs, doc, FieldList, no_fields, field, member}
use Rattle.mdb_datum.specs.Row.{Fields}
use Rattle.mdb_encode.specs.Bytes.{Bytes}
use Rattle.mdb_encode.specs.Indexer.{Indexer, str, str_list, str_map, uint, sint, truth, uuid, is_set, equals, compound, PartList, no_parts, part}
use Rattle.mdb_encode.specs.KeyRefusal.{KeyRefusal, wrong_kind, out_of_range, bad_uuid, too_many, too_long}

-- the keys, or the first rule that the row breaks
abbrev pub Keyed : Type 0
Keyed = Result (List Bytes) KeyRefusal

-- the member that an index reads; an absent one counts as null
abbrev pub value_at : Bytes → Fields → Doc
value_at name row = unwrap_or (member name row) nil

-- the ASCII letters A to Z as a to z, where an index folds them
abbrev pub folded : Bool → Bytes → Bytes
folded fold s = if fold then str_to_ascii_lowercase s else s

-- a text with its end byte
abbrev pub ended : Bytes → Bytes
ended s = s ++ 0 ∷ []

-- a text as a key
abbrev pub text_key : Bool → Bytes → Bytes
text_key fold s = ended (folded fold s)

-- a number in w bytes, the most significant first
abbrev pub big_endian : ℕ → ℕ → Bytes
big_endian zero n = []
big_endian (suc w) n = (n / 256 ^ w % 256) ∷ big_endian w n

-- a number from 0 to 256^w - 1
abbrev pub unsigned_key : ℕ → ℤ → Option Bytes
unsigned_key w (pos n) = if nat_lt n (256 ^ w) then Some (big_endian w n) else None
unsigned_key w (negsuc n) = None

-- a number from -2^(8w - 1) to 2^(8w - 1) - 1, moved up by 2^(8w - 1), which is half of 256^w
abbrev pub signed_key : ℕ → ℤ → Option Bytes
signed_key w z = unsigned_key w (z +ℤ pos (256 ^ w / 2))

-- 01 for true, 00 for false
abbrev pub bool_key : Bool → Bytes
bool_key b = (if b then 1 else 0) ∷ []

-- one key, or the refusal where there is none
abbrev pub key_or : KeyRefusal → Option Bytes → Keyed
key_or e None = Err e
key_or e (Some k) = Ok (k ∷ [])

-- go-memdb's StringFieldIndex: the text and its end byte
abbrev pub str_keys : Bool → Doc → Keyed
str_keys fold nil = Ok []
str_keys fold (text []) = Ok []
str_keys fold (text (b ∷ s)) = Ok (text_key fold (b ∷ s) ∷ [])
str_keys fold d = Err wrong_kind

-- one key more, in front
abbrev pub with_key : Bytes → Keyed → Keyed
with_key k (Err e) = Err e
with_key k (Ok ks) = Ok (k ∷ ks)

-- a key for each text that is not empty
abbrev pub item_keys : Bool → DocList → Keyed
item_keys fold no_docs = Ok []
item_keys fold (doc (text []) ds) = item_keys fold ds
item_keys fold (doc (text (b ∷ s)) ds) = with_key (text_key fold (b ∷ s)) (item_keys fold ds)
item_keys fold (doc d ds) = Err wrong_kind

-- go-memdb's StringSliceFieldIndex: the texts of a list
abbrev pub str_list_keys : Bool → Doc → Keyed
str_list_keys fold nil = Ok []
str_list_keys fold (list ds) = item_keys fold ds
str_list_keys fold d = Err wrong_kind

-- a key for each member whose name is not empty: the name and the value, each with its end byte
abbrev pub pair_keys : Bool → FieldList → Keyed
pair_keys fold no_fields = Ok []
pair_keys fold (field [] (text s) fs) = pair_keys fold fs
pair_keys fold (field (b ∷ name) (text s) fs) =
    with_key (text_key fold (b ∷ name) ++ text_key fold s) (pair_keys fold fs)
pair_keys fold (field name d fs) = Err wrong_kind

-- go-memdb's StringMapFieldIndex: the texts of an object, with their names
abbrev pub str_map_keys : Bool → Doc → Keyed
str_map_keys fold nil = Ok []
str_map_keys fold (object fs) = pair_keys fold fs
str_map_keys fold d = Err wrong_kind

-- go-memdb's UintFieldIndex, with the most significant byte first
abbrev pub uint_keys : ℕ → Doc → Keyed
uint_keys w nil = Ok []
uint_keys w (whole z) = key_or out_of_range (unsigned_key w z)
uint_keys w d = Err wrong_kind

-- go-memdb's IntFieldIndex: the sign bit is turned, so that the keys stand in the order of the
-- numbers
abbrev pub sint_keys : ℕ → Doc → Keyed
sint_keys w nil = Ok []
sint_keys w (whole z) = key_or out_of_range (signed_key w z)
sint_keys w d = Err wrong_kind

-- go-memdb's BoolFieldIndex
abbrev pub truth_keys : Doc → Keyed
truth_keys nil = Ok []
truth_keys (flag b) = Ok (bool_key b ∷ [])
truth_keys d = Err wrong_kind

-- go-memdb's UUIDFieldIndex: the 16 bytes of the hyphenated text (RFC 9562, section 4)
abbrev pub uuid_keys : Doc → Keyed
uuid_keys nil = Ok []
uuid_keys (text []) = Ok []
uuid_keys (text (b ∷ s)) = key_or bad_uuid (parsed_hyphenated (b ∷ s))
uuid_keys d = Err wrong_kind

-- the zero value of its type, which stands for nothing
abbrev pub is_zero_value : Doc → Bool
is_zero_value nil = true
is_zero_value (flag b) = not b
is_zero_value (whole z) = int_eq z (pos 0)
is_zero_value (text []) = true
is_zero_value (list no_docs) = true
is_zero_value (object no_fields) = true
is_zero_value d = false

-- the same scalar; a list or an object is none
abbrev pub same_scalar : Doc → Doc → Bool
same_scalar nil nil = true
same_scalar (flag a) (flag b) = if a then b else not b
same_scalar (whole a) (whole b) = int_eq a b
same_scalar (text a) (text b) = bytes_eq a b
same_scalar a b = false

-- go-memdb's CompoundIndex: a part's key is put behind what stands so far, and the next part
-- follows
abbrev pub after_part : Bool → Bytes → Keyed → (Bytes → Keyed) → Keyed
after_part allow_missing so_far (Err e) next = Err e
after_part allow_missing so_far (Ok []) next = if allow_missing then Ok (so_far ∷ []) else Ok []
after_part allow_missing so_far (Ok (k ∷ ks)) next = next (so_far ++ k)

abbrev mutual
  -- the keys before their number and lengths are looked at
  pub raw_keys : Indexer → Fields → Keyed
  raw_keys (str name fold) row = str_keys fold (value_at name row)
  raw_keys (str_list name fold) row = str_list_keys fold (value_at name row)
  raw_keys (str_map name fold) row = str_map_keys fold (value_at name row)
  raw_keys (uint name w) row = uint_keys w (value_at name row)
  raw_keys (sint name w) row = sint_keys w (value_at name row)
  raw_keys (truth name) row = truth_keys (value_at name row)
  raw_keys (uuid name) row = uuid_keys (value_at name row)
  -- go-memdb's FieldSetIndex
  raw_keys (is_set name) row = Ok (bool_key (not (is_zero_value (value_at name row))) ∷ [])
  -- go-memdb's ConditionalIndex, with the condition that the member equals a scalar
  raw_keys (equals name scalar) row = Ok (bool_key (same_scalar (value_at name row) scalar) ∷ [])
  raw_keys (compound parts allow_missing) row = joined_keys allow_missing [] parts row

  -- the parts' keys joined, from the left
  pub joined_keys : Bool → Bytes → PartList → Fields → Keyed
  joined_keys allow_missing so_far no_parts row = Ok (so_far ∷ [])
  joined_keys allow_missing so_far (part i is) row =
      after_part allow_missing so_far (raw_keys i row) (λ key. joined_keys allow_missing key is row)

-- the greatest number of keys of a row in one index
abbrev pub most_keys : ℕ
most_keys = 256

-- the greatest number of bytes in a key
abbrev pub longest_key : ℕ
longest_key = 1024

-- the key has more bytes than a key may have
abbrev pub is_too_long : Bytes → Bool
is_too_long k = nat_lt longest_key (length k)

-- not too many keys, and then none too long
abbrev pub limited : Keyed → Keyed
limited (Err e) = Err e
limited (Ok ks) =
    if nat_lt most_keys (length ks) then Err too_many else if list_any is_too_long ks
    then Err too_long else Ok ks

-- the keys of a row in an index
abbrev pub keys : Indexer → Fields → Keyed
keys i row = limited (raw_keys i row)
