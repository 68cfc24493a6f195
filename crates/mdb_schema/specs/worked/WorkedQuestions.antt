-- Worked questions: which rows a question lists, and in which order.
use Rattle.std.specs.Prelude.{◌≡◌, ◌≢◌, ◌∷◌, [], List, map, false, Some, None, Ok, Err, codes, refl}
use mathlib.Core.Path.{subst, sym}
use Rattle.mdb_datum.specs.Doc.{Doc, text}
use Rattle.mdb_datum.specs.Row.{Fields, Pair}
use Rattle.mdb_encode.specs.ArgRefusal.{arg_count, arg_out_of_range, arg_bad_uuid}
use Rattle.mdb_encode.specs.Bytes.{Bytes}
use Rattle.mdb_encode.specs.Indexer.{uuid}
use Rattle.mdb_encode.specs.Keys.{Keyed, keys}
use Rattle.mdb_schema.specs.Answer.{Asked, ask, answer, bad_argument}
use Rattle.mdb_schema.specs.declared.answer.Answer.{Answer}
use Rattle.mdb_schema.specs.declared.answer.Answer.TheVariants.{One, Many}
use Rattle.mdb_schema.specs.declared.ask.Ask.{Ask}
use Rattle.mdb_schema.specs.declared.ask.Ask.TheVariants.{First, Last, Get, GetReverse, Lower, ReverseLower, Longest}
use Rattle.mdb_schema.specs.Entries.{with_entries, entries}
use Rattle.mdb_schema.specs.State.{full_key, first_key, keys_or_none}
use Rattle.mdb_schema.specs.worked.Apart.{apart, asked_code}
use Rattle.mdb_schema.specs.worked.Sample.{sample, id_of_uuid, users_table, age_index, rules_table, path_index, number, texts, user, mailed, tagged, with_keys, with_rules, query, ask_users}

-- ---- in the order of the keys

abbrev ann : Fields
ann = user (codes "ann") 3

abbrev bob : Fields
bob = user (codes "bob") 2

abbrev cy : Fields
cy = user (codes "cy") 1

abbrev three : List Fields
three = ann ∷ bob ∷ cy ∷ []

-- without an argument the whole index is listed, in the order of its keys
pub listed_by_id : ask_users three Get (codes "id") [] ≡ Ok (Many (ann ∷ bob ∷ cy ∷ []))
listed_by_id = refl

-- it is not listed against that order
pub not_listed_backwards : ask_users three Get (codes "id") [] ≢ Ok (Many (cy ∷ bob ∷ ann ∷ []))
not_listed_backwards = apart asked_code tt refl

-- GetReverse lists it against that order
pub listed_in_reverse : ask_users three GetReverse (codes "id") []
    ≡ Ok (Many (cy ∷ bob ∷ ann ∷ []))
listed_in_reverse = refl

-- another index has an order of its own
pub listed_by_age : ask_users three Get (codes "age") [] ≡ Ok (Many (cy ∷ bob ∷ ann ∷ []))
listed_by_age = refl

-- which is not the one in which the rows stand
pub not_listed_as_stored : ask_users three Get (codes "age") [] ≢ Ok (Many (ann ∷ bob ∷ cy ∷ []))
not_listed_as_stored = apart asked_code tt refl

-- without an argument the name with `_prefix` means the same, also of an index with no prefix form
pub whole_by_prefix_name : ask_users three Get (codes "age_prefix") []
    ≡ Ok (Many (cy ∷ bob ∷ ann ∷ []))
whole_by_prefix_name = refl

-- First takes the first of the list
pub first_by_age : ask_users three First (codes "age") [] ≡ Ok (One (Some cy))
first_by_age = refl

-- Last takes the last of the list
pub last_by_id : ask_users three Last (codes "id") [] ≡ Ok (One (Some cy))
last_by_id = refl

-- and not the first
pub last_is_not_the_first : ask_users three Last (codes "id") [] ≢ Ok (One (Some ann))
last_is_not_the_first = apart asked_code tt refl

-- no rows, where nothing is stored
pub none_of_no_rows : ask_users [] Get (codes "id") [] ≡ Ok (Many [])
none_of_no_rows = refl

-- no first row, where nothing is stored
pub no_first_of_no_rows : ask_users [] First (codes "id") [] ≡ Ok (One None)
no_first_of_no_rows = refl

-- a row without a key stands in no list of that index
pub without_key_is_not_listed :
    ask_users (mailed (codes "ann") 1 (codes "m") ∷ bob ∷ []) Get (codes "mail") []
    ≡ Ok (Many (mailed (codes "ann") 1 (codes "m") ∷ []))
without_key_is_not_listed = refl

-- ---- where a text ends

abbrev ann_1 : Fields
ann_1 = user (codes "ann") 1

abbrev anna_2 : Fields
anna_2 = user (codes "anna") 2

-- a question about `ann` and `anna` by their names
abbrev ask_names : Ask → Bytes → Bytes → Asked Answer
ask_names a index name = ask_users (ann_1 ∷ anna_2 ∷ []) a index (texts (name ∷ []))

-- a text by the index's own name is the whole text
pub whole_text : ask_names Get (codes "id") (codes "ann") ≡ Ok (Many (ann_1 ∷ []))
whole_text = refl

-- a text that goes on is not listed
pub longer_text_is_not_listed : ask_names Get (codes "id") (codes "ann")
    ≢ Ok (Many (ann_1 ∷ anna_2 ∷ []))
longer_text_is_not_listed = apart asked_code tt refl

-- by the name with `_prefix` it is the start of a text
pub start_of_text : ask_names Get (codes "id_prefix") (codes "ann")
    ≡ Ok (Many (ann_1 ∷ anna_2 ∷ []))
start_of_text = refl

-- First finds no row for the start alone
pub start_is_no_whole_text : ask_names First (codes "id") (codes "an") ≡ Ok (One None)
start_is_no_whole_text = refl

-- by the name with `_prefix` it finds the first that begins so
pub first_of_start : ask_names First (codes "id_prefix") (codes "an") ≡ Ok (One (Some ann_1))
first_of_start = refl

-- GetReverse lists those that begin so against their order
pub start_in_reverse : ask_names GetReverse (codes "id_prefix") (codes "an")
    ≡ Ok (Many (anna_2 ∷ ann_1 ∷ []))
start_in_reverse = refl

-- ---- bounds on full keys

abbrev x : Fields
x = user (codes "x") 255

abbrev y : Fields
y = user (codes "y") 256

-- a question about the users `x` and `y` by their age
abbrev ask_ages : Ask → List Doc → Asked Answer
ask_ages a args = ask_users (x ∷ y ∷ []) a (codes "age") args

-- an age is two bytes, followed by the `id` key
pub entries_by_age : entries users_table age_index (x ∷ y ∷ [])
    ≡ (0 ∷ 0xff ∷ 0x78 ∷ 0 ∷ [], x) ∷ (1 ∷ 0 ∷ 0x79 ∷ 0 ∷ [], y) ∷ []
entries_by_age = refl

-- 256 stands behind 255
pub at_least_256 : ask_ages Lower (number 256 ∷ []) ≡ Ok (Many (y ∷ []))
at_least_256 = refl

-- 65,536 has no key of two bytes
pub at_least_65536 : ask_ages Lower (number 65536 ∷ []) ≡ Err (bad_argument arg_out_of_range)
at_least_65536 = refl

-- a full key goes on behind its age, so the one of 256 is greater than the bound
pub at_most_256 : ask_ages ReverseLower (number 256 ∷ []) ≡ Ok (Many (x ∷ []))
at_most_256 = refl

-- so the row of that very age is not listed
pub bound_is_of_full_keys : ask_ages ReverseLower (number 256 ∷ []) ≢ Ok (Many (y ∷ x ∷ []))
bound_is_of_full_keys = apart asked_code tt refl

-- both full keys are below the next age
pub at_most_257 : ask_ages ReverseLower (number 257 ∷ []) ≡ Ok (Many (y ∷ x ∷ []))
at_most_257 = refl

-- ReverseLower without a bound is refused
pub at_most_nothing : ask_ages ReverseLower [] ≡ Err (bad_argument arg_count)
at_most_nothing = refl

-- a start of a text may be a bound
pub at_least_a_start : ask_users three Lower (codes "id_prefix") (texts (codes "b" ∷ []))
    ≡ Ok (Many (bob ∷ cy ∷ []))
at_least_a_start = refl

-- ---- several keys a row

abbrev two_tags : Fields
two_tags = tagged (codes "n") (codes "b" ∷ codes "a" ∷ codes "b" ∷ [])

abbrev one_tag : Fields
one_tag = tagged (codes "m") (codes "b" ∷ [])

-- a row is listed once for each of its entries; a key that it has twice is one entry
pub listed_for_each_entry : ask_users (one_tag ∷ two_tags ∷ []) Get (codes "tags") []
    ≡ Ok (Many (two_tags ∷ one_tag ∷ two_tags ∷ []))
listed_for_each_entry = refl

-- a row with two entries is not listed once
pub not_listed_once : ask_users (one_tag ∷ two_tags ∷ []) Get (codes "tags") []
    ≢ Ok (Many (two_tags ∷ one_tag ∷ []))
not_listed_once = apart asked_code tt refl

-- nor once for each time that it has a key
pub not_listed_for_each_key : ask_users (one_tag ∷ two_tags ∷ []) Get (codes "tags") []
    ≢ Ok (Many (two_tags ∷ one_tag ∷ two_tags ∷ two_tags ∷ []))
not_listed_for_each_key = apart asked_code tt refl

-- rows that share a key stand in the order of their `id` keys
pub shared_key_by_id :
    ask_users (one_tag ∷ two_tags ∷ []) Get (codes "tags") (texts (codes "b" ∷ []))
    ≡ Ok (Many (one_tag ∷ two_tags ∷ []))
shared_key_by_id = refl

-- ---- the longest prefix

-- {"dc":"east","name":"a"}
abbrev east : Fields
east = (codes "dc", text (codes "east")) ∷ (codes "name", text (codes "a")) ∷ []

-- {"dc":"east","name":"b","svc":"web"}
abbrev east_web : Fields
east_web =
    (codes "dc", text (codes "east")) ∷ (codes "name", text (codes "b")) ∷
    (codes "svc", text (codes "web")) ∷ []

-- a question about both by `path`
abbrev ask_path : List Bytes → Asked Answer
ask_path parts = ask sample (with_rules (east ∷ east_web ∷ []))
    (query Longest (codes "rules") (codes "path_prefix") (texts parts))

-- the end byte of a text stands between the parts, and at the end
pub entries_by_path : entries rules_table path_index (east ∷ east_web ∷ [])
    ≡ (0x65 ∷ 0x61 ∷ 0x73 ∷ 0x74 ∷ 0 ∷ [], east) ∷
    (0x65 ∷ 0x61 ∷ 0x73 ∷ 0x74 ∷ 0 ∷ 0x77 ∷ 0x65 ∷ 0x62 ∷ 0 ∷ [], east_web) ∷ []
entries_by_path = refl

-- the row whose key is the longest that begins the argument
pub longest_of_east_db : ask_path (codes "east" ∷ codes "db" ∷ []) ≡ Ok (One (Some east))
longest_of_east_db = refl

-- the last argument has no end byte, so the key of `web` is longer than it
pub longest_of_east_web : ask_path (codes "east" ∷ codes "web" ∷ []) ≡ Ok (One (Some east))
longest_of_east_web = refl

-- the row of just these parts is not the answer
pub longest_is_not_the_same_path : ask_path (codes "east" ∷ codes "web" ∷ [])
    ≢ Ok (One (Some east_web))
longest_is_not_the_same_path = apart asked_code tt refl

-- an argument with a byte 00 at its end begins with both keys, of which the longer is taken
pub longest_of_two : ask_path (codes "east" ∷ (0x77 ∷ 0x65 ∷ 0x62 ∷ 0 ∷ []) ∷ [])
    ≡ Ok (One (Some east_web))
longest_of_two = refl

-- where no key begins the argument there is no row
pub longest_of_west : ask_path (codes "west" ∷ []) ≡ Ok (One None)
longest_of_west = refl

-- ---- UUIDs

-- a question about one row of `keys`, by a text
abbrev ask_key : Fields → Ask → Bytes → Bytes → Asked Answer
ask_key row a index key =
    ask sample (with_keys (row ∷ [])) (query a (codes "keys") index (texts (key ∷ [])))

-- the rows whose key begins with a key, where the one row has these keys
abbrev begins : Fields → Bytes → Keyed → Asked Answer
begins row k ks = Ok (answer Get false k (entries_of ks))
  where
    entries_of : Keyed → List Pair
    entries_of ks = with_entries (map (full_key id_of_uuid (first_key ks)) (keys_or_none ks)) row []

-- a row is found by the start of its UUID, with hyphens anywhere
pub uuid_by_start : (row : Fields) (rest : Bytes) →
    keys (uuid (codes "key")) row ≡ Ok ((0x12 ∷ 0x34 ∷ rest) ∷ []) →
    ask_key row Get (codes "id_prefix") (codes "12-34") ≡ Ok (Many (row ∷ []))
uuid_by_start row rest e =
    subst (λ ks. begins row (0x12 ∷ 0x34 ∷ []) ks ≡ Ok (Many (row ∷ []))) (sym e) refl

-- it is not found by another start
pub uuid_by_other_start : (row : Fields) (rest : Bytes) →
    keys (uuid (codes "key")) row ≡ Ok ((0x12 ∷ 0x35 ∷ rest) ∷ []) →
    ask_key row Get (codes "id_prefix") (codes "12-34") ≡ Ok (Many [])
uuid_by_other_start row rest e =
    subst (λ ks. begins row (0x12 ∷ 0x34 ∷ []) ks ≡ Ok (Many [])) (sym e) refl

-- an odd number of digits is no start
pub uuid_by_odd_start : (row : Fields) →
    ask_key row Get (codes "id_prefix") (codes "123") ≡ Err (bad_argument arg_bad_uuid)
uuid_by_odd_start row = refl

-- one digit too few is no UUID
pub uuid_too_short : (row : Fields) →
    ask_key row First (codes "id") (codes "12345678-9abc-def0-1234-56789abcdef")
    ≡ Err (bad_argument arg_bad_uuid)
uuid_too_short row = refl
