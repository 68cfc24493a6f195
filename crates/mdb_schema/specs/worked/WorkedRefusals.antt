-- Worked refusals: each rule, and which of two broken rules is told.
use Rattle.std.specs.Prelude.{◌≡◌, ◌≢◌, ◌∷◌, [], List, Ok, Err, codes, replicate, refl}
use Rattle.mdb_datum.specs.Doc.{Doc, text, list, doc_list}
use Rattle.mdb_datum.specs.Row.{Fields}
use Rattle.mdb_encode.specs.ArgRefusal.{arg_count, arg_kind, arg_out_of_range, arg_too_long, no_prefix_form}
use Rattle.mdb_encode.specs.Bytes.{Bytes}
use Rattle.mdb_encode.specs.KeyRefusal.{wrong_kind, out_of_range}
use Rattle.mdb_schema.specs.Answer.{AskRefusal, Asked, ask, no_prefix_name, unknown_index, not_unique, bad_argument}
use Rattle.mdb_schema.specs.declared.answer.Answer.{Answer}
use Rattle.mdb_schema.specs.declared.ask.Ask.{Ask}
use Rattle.mdb_schema.specs.declared.ask.Ask.TheVariants.{First, Get, Lower, ReverseLower, Longest}
use Rattle.mdb_schema.specs.State.{State}
use Rattle.mdb_schema.specs.Wipe.{wipe, wipe_by_prefix}
use Rattle.mdb_schema.specs.Write.{put, remove, WriteRefusal, step, no_id, bad_key, missing, key_taken, not_found}
use Rattle.mdb_schema.specs.worked.Apart.{apart, step_code, asked_code, wipe_code}
use Rattle.mdb_schema.specs.worked.Sample.{sample, number, texts, only_name, user, mailed, tagged, with_users, put_user, remove_user, among_users, query, ask_users}

abbrev a : Bytes
a = codes "a"

-- ---- each rule of a put

-- no `id` key: {"age":1}
pub no_name : among_users [] (put_user ((codes "age", number 1) ∷ [])) ≡ Err no_id
no_name = refl

-- the empty text is no key: {"age":1,"name":""}
pub empty_name : among_users [] (put_user (user [] 1)) ≡ Err no_id
empty_name = refl

-- a number where a text is read: {"age":1,"name":5}
pub number_as_name : among_users []
    (put_user ((codes "age", number 1) ∷ (codes "name", number 5) ∷ []))
    ≡ Err (bad_key 1 wrong_kind)
number_as_name = refl

-- no key where one has to be: {"name":"a"}
pub no_age : among_users [] (put_user (only_name a)) ≡ Err (missing 0)
no_age = refl

-- a number past the width: {"age":70000,"name":"a"}
pub age_past_two_bytes : among_users [] (put_user (user a 70000)) ≡ Err (bad_key 0 out_of_range)
age_past_two_bytes = refl

-- {"age":1,"name":"a","tags":"x"}
abbrev text_as_tags : Fields
text_as_tags =
    (codes "age", number 1) ∷ (codes "name", text a) ∷ (codes "tags", text (codes "x")) ∷ []

-- a text where a list is read
pub text_is_no_list : among_users [] (put_user text_as_tags) ≡ Err (bad_key 3 wrong_kind)
text_is_no_list = refl

-- ---- a put that breaks two rules

-- the table is looked for first
pub table_before_id : step sample (with_users []) (put (codes "user") [])
    ≡ Err WriteRefusal.unknown_table
table_before_id = refl

-- that the row has no `id` key is not told
pub table_is_told : step sample (with_users []) (put (codes "user") []) ≢ Err no_id
table_is_told = apart step_code tt refl

-- `id` is looked at first: {"name":5} has no age
pub id_before_missing : among_users [] (put_user ((codes "name", number 5) ∷ []))
    ≡ Err (bad_key 1 wrong_kind)
id_before_missing = refl

-- that the age is missing is not told, though `age` stands before `id`
pub id_is_told : among_users [] (put_user ((codes "name", number 5) ∷ [])) ≢ Err (missing 0)
id_is_told = apart step_code tt refl

-- a missing `id` key is told before a bad one elsewhere: {"age":"x"}
pub no_id_before_bad_key : among_users [] (put_user ((codes "age", text (codes "x")) ∷ []))
    ≡ Err no_id
no_id_before_bad_key = refl

-- {"name":"a","tags":"x"}
abbrev no_age_bad_tags : Fields
no_age_bad_tags = (codes "name", text a) ∷ (codes "tags", text (codes "x")) ∷ []

-- the other indexes follow in their order: no age, and tags that are no list
pub missing_before_bad_key : among_users [] (put_user no_age_bad_tags) ≡ Err (missing 0)
missing_before_bad_key = refl

-- the rule that the later index breaks is not told
pub earlier_index_is_told : among_users [] (put_user no_age_bad_tags) ≢ Err (bad_key 3 wrong_kind)
earlier_index_is_told = apart step_code tt refl

-- {"age":1,"mail":"m","name":NAME,"tags":TAGS}
abbrev mail_and_tags : Bytes → Doc → Fields
mail_and_tags name tags =
    (codes "age", number 1) ∷ (codes "mail", text (codes "m")) ∷ (codes "name", text name) ∷
    (codes "tags", tags) ∷ []

-- the rows are looked at last: the mail is taken, and the tags are no list
pub bad_key_before_taken : among_users (mailed (codes "b") 1 (codes "m") ∷ [])
    (put_user (mail_and_tags a (text (codes "x"))))
    ≡ Err (bad_key 3 wrong_kind)
bad_key_before_taken = refl

-- that the mail is taken is not told
pub taken_is_told_last : among_users (mailed (codes "b") 1 (codes "m") ∷ [])
    (put_user (mail_and_tags a (text (codes "x"))))
    ≢ Err (key_taken 2)
taken_is_told_last = apart step_code tt refl

-- the first row has the full key of the tag `a`, 00, `b` of a user `c`, and the second the mail
abbrev two_takers : List Fields
two_takers =
    tagged (98 ∷ 0 ∷ 99 ∷ []) (codes "a" ∷ []) ∷ mailed (codes "d") 1 (codes "m") ∷ []

abbrev takes_both : Fields
takes_both = mail_and_tags (codes "c") (list (doc_list (text (97 ∷ 0 ∷ 98 ∷ []) ∷ [])))

-- of two keys that are taken the one of the earlier index is told, whichever row has it
pub taken_by_index : among_users two_takers (put_user takes_both) ≡ Err (key_taken 2)
taken_by_index = refl

-- the one that the earlier row has is not told
pub taken_is_not_by_row : among_users two_takers (put_user takes_both) ≢ Err (key_taken 3)
taken_is_not_by_row = apart step_code tt refl

-- ---- removes

-- the table is looked for first
pub remove_of_no_table : step sample (with_users []) (remove (codes "user") [])
    ≡ Err WriteRefusal.unknown_table
remove_of_no_table = refl

-- then `id` is looked at
pub remove_of_number : among_users [] (remove_user ((codes "name", number 5) ∷ []))
    ≡ Err (bad_key 1 wrong_kind)
remove_of_number = refl

-- where the row has to have a key
pub remove_of_no_name : among_users [] (remove_user []) ≡ Err no_id
remove_of_no_name = refl

-- then the row is looked for; no other index is looked at
pub remove_of_no_row : among_users [] (remove_user text_as_tags) ≡ Err not_found
remove_of_no_row = refl

-- ---- each rule of a question

-- a question about one user, who has no tags
abbrev ask_one : Ask → Bytes → List Doc → Asked Answer
ask_one = ask_users (user a 1 ∷ [])

-- the table is none of the schema
pub no_such_table : ask sample (with_users []) (query Get (codes "user") (codes "id") [])
    ≡ Err AskRefusal.unknown_table
no_such_table = refl

-- the index is none of the table
pub no_such_index : ask_one Get (codes "ids") [] ≡ Err unknown_index
no_such_index = refl

-- a number has no prefix form
pub number_has_no_prefix : ask_one Get (codes "age_prefix") (number 1 ∷ [])
    ≡ Err (bad_argument no_prefix_form)
number_has_no_prefix = refl

-- a text where a number is read
pub text_is_no_age : ask_one Get (codes "age") (texts (codes "1" ∷ []))
    ≡ Err (bad_argument arg_kind)
text_is_no_age = refl

-- one argument too many
pub two_ages : ask_one Get (codes "age") (number 1 ∷ number 2 ∷ []) ≡ Err (bad_argument arg_count)
two_ages = refl

-- a number past the width
pub age_of_three_bytes : ask_one Lower (codes "age") (number 65536 ∷ [])
    ≡ Err (bad_argument arg_out_of_range)
age_of_three_bytes = refl

-- Longest asks by the name with `_prefix`
pub longest_by_own_name : ask_one Longest (codes "id") (texts (a ∷ [])) ≡ Err no_prefix_name
longest_by_own_name = refl

-- Longest asks a unique index
pub longest_of_shared_keys : ask_one Longest (codes "tags_prefix") (texts (a ∷ [])) ≡ Err not_unique
longest_of_shared_keys = refl

-- Longest needs an argument
pub longest_of_nothing : ask_one Longest (codes "id_prefix") [] ≡ Err (bad_argument arg_count)
longest_of_nothing = refl

-- ReverseLower needs an argument
pub reverse_lower_of_nothing : ask_one ReverseLower (codes "id") [] ≡ Err (bad_argument arg_count)
reverse_lower_of_nothing = refl

-- an argument of 1,024 letters has a key of 1,025 bytes
pub argument_of_1025_bytes : ask_one First (codes "id") (text (replicate 1024 97) ∷ [])
    ≡ Err (bad_argument arg_too_long)
argument_of_1025_bytes = refl

-- ---- a question that breaks two rules

-- the table is looked for before the name's ending
pub table_before_prefix_name :
    ask sample (with_users []) (query Longest (codes "user") (codes "id") [])
    ≡ Err AskRefusal.unknown_table
table_before_prefix_name = refl

-- the name's ending is looked at before the index is looked for
pub prefix_name_before_index : ask_one Longest (codes "ids") [] ≡ Err no_prefix_name
prefix_name_before_index = refl

-- that there is no such index is not told
pub prefix_name_is_told : ask_one Longest (codes "ids") [] ≢ Err unknown_index
prefix_name_is_told = apart asked_code tt refl

-- the index is looked for before the arguments are counted
pub index_before_arguments : ask_one ReverseLower (codes "ids") [] ≡ Err unknown_index
index_before_arguments = refl

-- whether the index is unique comes before the number of arguments
pub unique_before_count : ask_one Longest (codes "tags_prefix") [] ≡ Err not_unique
unique_before_count = refl

-- that an argument is wanted is not told
pub unique_is_told : ask_one Longest (codes "tags_prefix") [] ≢ Err (bad_argument arg_count)
unique_is_told = apart asked_code tt refl

-- the arguments are counted before their kinds are looked at
pub count_before_kind : ask_one Get (codes "age") (texts (a ∷ a ∷ []))
    ≡ Err (bad_argument arg_count)
count_before_kind = refl

-- whether there is a prefix form comes before their number
pub prefix_form_before_count : ask_one Get (codes "age_prefix") (texts (a ∷ a ∷ []))
    ≡ Err (bad_argument no_prefix_form)
prefix_form_before_count = refl

-- ---- wipes

abbrev one_user : State
one_user = with_users (user a 1 ∷ [])

-- the table is none of the schema
pub wipe_of_no_table : wipe sample one_user (query Get (codes "user") (codes "id") [])
    ≡ Err AskRefusal.unknown_table
wipe_of_no_table = refl

-- also where the name has the wrong ending
pub wipe_of_no_table_by_prefix :
    wipe_by_prefix sample one_user (query Get (codes "user") (codes "id") [])
    ≡ Err AskRefusal.unknown_table
wipe_of_no_table_by_prefix = refl

-- the name's ending is looked at before the index is looked for
pub wipe_prefix_name_before_index :
    wipe_by_prefix sample one_user (query Get (codes "users") (codes "ids") [])
    ≡ Err no_prefix_name
wipe_prefix_name_before_index = refl

-- that there is no such index is not told
pub wipe_prefix_name_is_told :
    wipe_by_prefix sample one_user (query Get (codes "users") (codes "ids") [])
    ≢ Err unknown_index
wipe_prefix_name_is_told = apart wipe_code tt refl

-- the index is none of the table
pub wipe_of_no_index : wipe sample one_user (query Get (codes "users") (codes "ids") [])
    ≡ Err unknown_index
wipe_of_no_index = refl

-- a number has no prefix form
pub wipe_of_a_number_by_prefix :
    wipe_by_prefix sample one_user (query Get (codes "users") (codes "age_prefix") (number 1 ∷ []))
    ≡ Err (bad_argument no_prefix_form)
wipe_of_a_number_by_prefix = refl

-- without an argument it is the whole index, also of one with no prefix form
pub wipe_of_all_by_prefix :
    wipe_by_prefix sample one_user (query Get (codes "users") (codes "age_prefix") [])
    ≡ Ok (remove_user (user a 1) ∷ [])
wipe_of_all_by_prefix = refl
