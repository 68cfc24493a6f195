-- Worked kinds: for each kind of index a write, with the entries that the index then has, and a
-- question.
use Rattle.std.specs.Prelude.{◌≡◌, ◌≢◌, ◌∷◌, [], pos, negsuc, List, map, Bool, true, false, Some, Ok, Err, slice_get, codes, refl}
use mathlib.Core.Path.{subst, sym}
use Rattle.mdb_datum.specs.Doc.{Doc, flag, whole, text, list, object, doc_list, field_list, Field}
use Rattle.mdb_datum.specs.Row.{Fields, Pair}
use Rattle.mdb_encode.specs.Bytes.{Bytes}
use Rattle.mdb_encode.specs.Indexer.{Indexer, str, str_list, str_map, uint, sint, truth, uuid, is_set, equals, compound, part, no_parts}
use Rattle.mdb_encode.specs.KeyRefusal.{wrong_kind, out_of_range, bad_uuid}
use Rattle.mdb_encode.specs.Keys.{Keyed, keys}
use Rattle.mdb_schema.specs.Answer.{Asked, ask, answer}
use Rattle.mdb_schema.specs.declared.answer.Answer.{Answer}
use Rattle.mdb_schema.specs.declared.answer.Answer.TheVariants.{One, Many}
use Rattle.mdb_schema.specs.declared.ask.Ask.{Ask}
use Rattle.mdb_schema.specs.declared.ask.Ask.TheVariants.{First, Get, Lower, ReverseLower}
use Rattle.mdb_schema.specs.Broken.{◌>>=◌, needed}
use Rattle.mdb_schema.specs.Entries.{with_entries, entries}
use Rattle.mdb_schema.specs.Schema.{IndexSchema, TableSchema}
use Rattle.mdb_schema.specs.State.{full_key, first_key, keys_or_none}
use Rattle.mdb_schema.specs.Write.{Tested, step, put, unknown_table, bad_key, missing, key_taken}
use Rattle.mdb_schema.specs.worked.Apart.{apart, asked_code, entries_code}
use Rattle.mdb_schema.specs.worked.Sample.{id_of_text, number, texts, only_name, query}

-- ---- a table with the text `name` as its `id`, and an index `x` of the kind

-- an index of which no two rows may share a key
abbrev alone : Indexer → IndexSchema
alone i = record { name = codes "x"; unique = true; allow_missing = false; indexer = i }

-- an index of which rows may share a key
abbrev shared : Indexer → IndexSchema
shared i = record { name = codes "x"; unique = false; allow_missing = false; indexer = i }

abbrev table_with : IndexSchema → TableSchema
table_with i = record { name = codes "t"; tracked = false; indexes = id_of_text (codes "name") ∷ i ∷ [] }

-- {"name":NAME,"x":X}
abbrev row : Bytes → Doc → Fields
row name x = (codes "name", text name) ∷ (codes "x", x) ∷ []

-- the entries of `x` after a put among these rows
abbrev put_among : IndexSchema → List Fields → Fields → Tested (List Pair)
put_among i rows r = do
  stepped ← step (table_with i ∷ []) (rows ∷ []) (put (codes "t") r)
  now ← needed unknown_table (slice_get stepped.0 0)
  Ok (entries (table_with i) i now)

-- the answer to a question about these rows
abbrev ask_of : IndexSchema → List Fields → Ask → Bytes → List Doc → Asked Answer
ask_of i rows a index args = ask (table_with i ∷ []) (rows ∷ []) (query a (codes "t") index args)

-- the names of rows, whose `id` keys are 61 00 to 64 00
abbrev a : Bytes
a = codes "a"

abbrev b : Bytes
b = codes "b"

abbrev c : Bytes
c = codes "c"

abbrev d : Bytes
d = codes "d"

-- ---- a text, here with its capital letters folded

abbrev of_text : IndexSchema
of_text = alone (str (codes "x") true)

abbrev on : Fields
on = row a (text (codes "On"))

abbrev all : Fields
all = row b (text (codes "ALL"))

-- the key of a text is its small letters and 00
pub text_is_put : put_among of_text (on ∷ []) all
    ≡ Ok ((0x61 ∷ 0x6c ∷ 0x6c ∷ 0 ∷ [], all) ∷ (0x6f ∷ 0x6e ∷ 0 ∷ [], on) ∷ [])
text_is_put = refl

-- a text that differs by its capitals alone is taken
pub text_is_taken : put_among of_text (on ∷ []) (row b (text (codes "oN"))) ≡ Err (key_taken 1)
text_is_taken = refl

-- and finds the row
pub text_is_found : ask_of of_text (on ∷ all ∷ []) First (codes "x") (texts (codes "ON" ∷ []))
    ≡ Ok (One (Some on))
text_is_found = refl

-- ---- a list of texts

abbrev of_list : IndexSchema
of_list = shared (str_list (codes "x") false)

-- {"name":NAME,"x":TEXTS}
abbrev listed : Bytes → List Bytes → Fields
listed name ss = row name (list (doc_list (texts ss)))

abbrev red : Fields
red = listed a (codes "r" ∷ [])

abbrev red_and_green : Fields
red_and_green = listed b (codes "r" ∷ [] ∷ codes "g" ∷ [])

-- a key for each text that is not empty, with the `id` key behind it
pub list_is_put : put_among of_list (red ∷ []) red_and_green
    ≡ Ok (
    (0x67 ∷ 0 ∷ 0x62 ∷ 0 ∷ [], red_and_green) ∷ (0x72 ∷ 0 ∷ 0x61 ∷ 0 ∷ [], red) ∷
    (0x72 ∷ 0 ∷ 0x62 ∷ 0 ∷ [], red_and_green) ∷ [])
list_is_put = refl

-- a list without texts has no key
pub list_has_no_key : put_among of_list (red ∷ []) (listed b ([] ∷ [])) ≡ Err (missing 1)
list_has_no_key = refl

-- the rows that have a text
pub list_is_found :
    ask_of of_list (red ∷ red_and_green ∷ []) Get (codes "x") (texts (codes "r" ∷ []))
    ≡ Ok (Many (red ∷ red_and_green ∷ []))
list_is_found = refl

-- ---- an object of texts

abbrev of_map : IndexSchema
of_map = shared (str_map (codes "x") false)

-- {"name":NAME,"x":MEMBERS}
abbrev mapped : Bytes → List Field → Fields
mapped name members = row name (object (field_list members))

-- {"k":"u"}
abbrev one_member : Fields
one_member = mapped a ((codes "k", text (codes "u")) ∷ [])

-- {"":"z","k":"v","l":"u"}
abbrev three_members : Fields
three_members = mapped b (
    ([], text (codes "z")) ∷ (codes "k", text (codes "v")) ∷ (codes "l", text (codes "u")) ∷ [])

-- a key for each member whose name is not empty: the name, 00, the value, 00
pub map_is_put : put_among of_map (one_member ∷ []) three_members
    ≡ Ok (
    (0x6b ∷ 0 ∷ 0x75 ∷ 0 ∷ 0x61 ∷ 0 ∷ [], one_member) ∷
    (0x6b ∷ 0 ∷ 0x76 ∷ 0 ∷ 0x62 ∷ 0 ∷ [], three_members) ∷
    (0x6c ∷ 0 ∷ 0x75 ∷ 0 ∷ 0x62 ∷ 0 ∷ [], three_members) ∷ [])
map_is_put = refl

-- a member that is no text
pub map_of_number : put_among of_map [] (mapped a ((codes "k", number 1) ∷ []))
    ≡ Err (bad_key 1 wrong_kind)
map_of_number = refl

-- by a name alone
pub map_is_found_by_name :
    ask_of of_map (one_member ∷ three_members ∷ []) Get (codes "x") (texts (codes "k" ∷ []))
    ≡ Ok (Many (one_member ∷ three_members ∷ []))
map_is_found_by_name = refl

-- by a name and a value
pub map_is_found_by_both :
    ask_of of_map (one_member ∷ three_members ∷ []) Get (codes "x")
    (texts (codes "k" ∷ codes "v" ∷ []))
    ≡ Ok (Many (three_members ∷ []))
map_is_found_by_both = refl

-- ---- a number from 0 up, here in four bytes

abbrev of_uint : IndexSchema
of_uint = alone (uint (codes "x") 4)

abbrev n_70000 : Fields
n_70000 = row a (number 70000)

abbrev n_258 : Fields
n_258 = row b (number 258)

-- the most significant byte comes first, so keys stand in the order of the numbers
pub uint_is_put : put_among of_uint (n_70000 ∷ []) n_258
    ≡ Ok ((0 ∷ 0 ∷ 1 ∷ 2 ∷ [], n_258) ∷ (0 ∷ 1 ∷ 0x11 ∷ 0x70 ∷ [], n_70000) ∷ [])
uint_is_put = refl

-- a number below 0 is out of range
pub uint_below_zero : put_among of_uint [] (row a (whole (negsuc 0)))
    ≡ Err (bad_key 1 out_of_range)
uint_below_zero = refl

-- the rows up to a number, from the greatest down
pub uint_is_found :
    ask_of of_uint (n_70000 ∷ n_258 ∷ []) ReverseLower (codes "x") (number 70000 ∷ [])
    ≡ Ok (Many (n_70000 ∷ n_258 ∷ []))
uint_is_found = refl

-- ---- a number with a sign, here in one byte

abbrev of_sint : IndexSchema
of_sint = alone (sint (codes "x") 1)

abbrev least : Fields
least = row a (whole (negsuc 127))

abbrev minus_one : Fields
minus_one = row b (whole (negsuc 0))

abbrev nought : Fields
nought = row c (whole (pos 0))

abbrev greatest : Fields
greatest = row d (whole (pos 127))

-- -128, -1, 0 and 127 have the keys 00, 7f, 80 and ff
pub sint_is_put : put_among of_sint (least ∷ nought ∷ greatest ∷ []) minus_one
    ≡ Ok (
    (0 ∷ [], least) ∷ (0x7f ∷ [], minus_one) ∷ (0x80 ∷ [], nought) ∷ (0xff ∷ [], greatest) ∷ [])
sint_is_put = refl

-- 128 is out of range
pub sint_past_its_width : put_among of_sint [] (row a (whole (pos 128)))
    ≡ Err (bad_key 1 out_of_range)
sint_past_its_width = refl

-- the rows from a number on
pub sint_is_found :
    ask_of of_sint (least ∷ minus_one ∷ nought ∷ greatest ∷ []) Lower (codes "x")
    (whole (negsuc 0) ∷ [])
    ≡ Ok (Many (minus_one ∷ nought ∷ greatest ∷ []))
sint_is_found = refl

-- numbers below 0 do not come behind the others
pub sint_below_zero_is_first :
    ask_of of_sint (least ∷ minus_one ∷ nought ∷ greatest ∷ []) Get (codes "x") []
    ≢ Ok (Many (nought ∷ greatest ∷ least ∷ minus_one ∷ []))
sint_below_zero_is_first = apart asked_code tt refl

-- ---- a truth value

abbrev of_truth : IndexSchema
of_truth = shared (truth (codes "x"))

abbrev yes : Fields
yes = row a (flag true)

abbrev no : Fields
no = row b (flag false)

-- 01 for true, and 00 for false
pub truth_is_put : put_among of_truth (yes ∷ []) no
    ≡ Ok ((0 ∷ 0x62 ∷ 0 ∷ [], no) ∷ (1 ∷ 0x61 ∷ 0 ∷ [], yes) ∷ [])
truth_is_put = refl

-- the rows where it is true
pub truth_is_found : ask_of of_truth (yes ∷ no ∷ []) Get (codes "x") (flag true ∷ [])
    ≡ Ok (Many (yes ∷ []))
truth_is_found = refl

-- ---- a UUID

abbrev of_uuid : IndexSchema
of_uuid = alone (uuid (codes "x"))

-- a text of another form
pub uuid_without_hyphens :
    put_among of_uuid [] (row a (text (codes "123456789abcdef0123456789abcdef0")))
    ≡ Err (bad_key 1 bad_uuid)
uuid_without_hyphens = refl

-- the empty text is no UUID
pub uuid_is_missing : put_among of_uuid [] (row a (text [])) ≡ Err (missing 1)
uuid_is_missing = refl

-- the entries of one row that has these keys
abbrev entries_of : Fields → Keyed → List Pair
entries_of r ks = with_entries (map (full_key of_uuid (first_key ks)) (keys_or_none ks)) r []

-- the entry of a UUID is its key alone
pub uuid_is_entered : (r : Fields) (k : Bytes) → keys (uuid (codes "x")) r ≡ Ok (k ∷ []) →
    entries (table_with of_uuid) of_uuid (r ∷ []) ≡ (k, r) ∷ []
uuid_is_entered r k e = subst (λ ks. entries_of r ks ≡ (k, r) ∷ []) (sym e) refl

-- the rows whose key begins with the bytes ab, cd and ef, where the one row has these keys
abbrev begins : Fields → Keyed → Asked Answer
begins r ks = Ok (answer Get false (0xab ∷ 0xcd ∷ 0xef ∷ []) (entries_of r ks))

-- a row is found by the start of its UUID, in digits of either case
pub uuid_is_found : (r : Fields) (rest : Bytes) →
    keys (uuid (codes "x")) r ≡ Ok ((0xab ∷ 0xcd ∷ 0xef ∷ rest) ∷ []) →
    ask_of of_uuid (r ∷ []) Get (codes "x_prefix") (texts (codes "abCDef" ∷ []))
    ≡ Ok (Many (r ∷ []))
uuid_is_found r rest e = subst (λ ks. begins r ks ≡ Ok (Many (r ∷ []))) (sym e) refl

-- ---- whether a member is set

abbrev of_set : IndexSchema
of_set = shared (is_set (codes "x"))

abbrev five : Fields
five = row a (number 5)

abbrev absent : Fields
absent = only_name b

abbrev zero_set : Fields
zero_set = row c (number 0)

-- 00 where the member is absent, and 01 where it is set
pub set_is_put : put_among of_set (five ∷ []) absent
    ≡ Ok ((0 ∷ 0x62 ∷ 0 ∷ [], absent) ∷ (1 ∷ 0x61 ∷ 0 ∷ [], five) ∷ [])
set_is_put = refl

-- 0 counts as not set
pub set_is_found : ask_of of_set (five ∷ absent ∷ zero_set ∷ []) Get (codes "x") (flag false ∷ [])
    ≡ Ok (Many (absent ∷ zero_set ∷ []))
set_is_found = refl

-- ---- whether a member equals a scalar

abbrev of_equals : IndexSchema
of_equals = shared (equals (codes "x") (text (codes "up")))

abbrev up : Fields
up = row a (text (codes "up"))

abbrev down : Fields
down = row b (text (codes "down"))

-- 01 where it does, and 00 where it does not
pub equals_is_put : put_among of_equals (up ∷ []) down
    ≡ Ok ((0 ∷ 0x62 ∷ 0 ∷ [], down) ∷ (1 ∷ 0x61 ∷ 0 ∷ [], up) ∷ [])
equals_is_put = refl

-- an absent member does not
pub equals_is_found :
    ask_of of_equals (up ∷ down ∷ only_name c ∷ []) Get (codes "x") (flag false ∷ [])
    ≡ Ok (Many (down ∷ only_name c ∷ []))
equals_is_found = refl

-- ---- several members joined, here a text and a number of one byte

abbrev of_parts : Bool → IndexSchema
of_parts allow_missing = alone (compound
    (part (str (codes "x") false) (part (uint (codes "y") 1) no_parts)) allow_missing)

-- {"name":"a","x":"e","y":9}
abbrev both_parts : Fields
both_parts = (codes "name", text a) ∷ (codes "x", text (codes "e")) ∷ (codes "y", number 9) ∷ []

-- {"name":"b","x":"e"}
abbrev first_part : Fields
first_part = row b (text (codes "e"))

-- where parts may be missing, the key ends before the first that is
pub compound_is_put : put_among (of_parts true) (both_parts ∷ []) first_part
    ≡ Ok ((0x65 ∷ 0 ∷ [], first_part) ∷ (0x65 ∷ 0 ∷ 9 ∷ [], both_parts) ∷ [])
compound_is_put = refl

-- where none may be missing, the whole key is
pub compound_is_missing : put_among (of_parts false) (both_parts ∷ []) first_part
    ≡ Err (missing 1)
compound_is_missing = refl

-- the parts that are there make no key of their own
pub compound_is_not_cut : put_among (of_parts false) (both_parts ∷ []) first_part
    ≢ Ok ((0x65 ∷ 0 ∷ [], first_part) ∷ (0x65 ∷ 0 ∷ 9 ∷ [], both_parts) ∷ [])
compound_is_not_cut = apart entries_code tt refl

-- by an argument for each part
pub compound_is_found :
    ask_of (of_parts true) (both_parts ∷ first_part ∷ []) First (codes "x")
    (text (codes "e") ∷ number 9 ∷ [])
    ≡ Ok (One (Some both_parts))
compound_is_found = refl

-- by the start of the first part
pub compound_is_found_by_start :
    ask_of (of_parts true) (both_parts ∷ first_part ∷ []) Get (codes "x_prefix")
    (texts (codes "e" ∷ []))
    ≡ Ok (Many (first_part ∷ both_parts ∷ []))
compound_is_found_by_start = refl
