-- Worked writes: what a put, a remove and a wipe make of the rows of a table, and what they answer.
use Rattle.std.specs.Prelude.{◌≡◌, ◌≢◌, ◌∷◌, [], true, false, Some, None, Ok, Err, codes, replicate, refl}
use Rattle.mdb_datum.specs.Doc.{text}
use Rattle.mdb_datum.specs.Row.{Fields}
use Rattle.mdb_encode.specs.Bytes.{Bytes}
use Rattle.mdb_encode.specs.Indexer.{Indexer, str, compound, part, no_parts}
use Rattle.mdb_encode.specs.KeyRefusal.{too_many, too_long}
use Rattle.mdb_schema.specs.Answer.{ask}
use Rattle.mdb_schema.specs.Query.{Query}
use Rattle.mdb_schema.specs.declared.answer.Answer.TheVariants.{Many}
use Rattle.mdb_schema.specs.declared.ask.Ask.TheVariants.{Get, Longest}
use Rattle.mdb_schema.specs.History.{History, after_writes, state_at}
use Rattle.mdb_schema.specs.Schema.{IndexSchema, TableSchema}
use Rattle.mdb_schema.specs.State.{State, full_keys}
use Rattle.mdb_schema.specs.Wipe.{wipe, wipe_by_prefix}
use Rattle.mdb_schema.specs.Write.{put, put_row, step, bad_key, key_taken, not_found}
use Rattle.mdb_schema.specs.worked.Apart.{apart, state_code, step_code, wipe_code}
use Rattle.mdb_schema.specs.worked.Sample.{sample, users_table, tags_index, number, texts, only_name, user, mailed, tagged, with_users, after, put_user, remove_user, among_users, query}

abbrev ann : Fields
ann = user (codes "ann") 3

abbrev older_ann : Fields
older_ann = user (codes "ann") 4

abbrev bob : Fields
bob = user (codes "bob") 2

abbrev cy : Fields
cy = user (codes "cy") 1

-- ---- puts

-- rows stand by their `id` keys
pub rows_stand_by_id : after (put_user cy ∷ put_user bob ∷ put_user ann ∷ [])
    ≡ with_users (ann ∷ bob ∷ cy ∷ [])
rows_stand_by_id = refl

-- they do not stand in the order in which they were put
pub not_as_they_were_put : after (put_user cy ∷ put_user bob ∷ put_user ann ∷ [])
    ≢ with_users (cy ∷ bob ∷ ann ∷ [])
not_as_they_were_put = apart state_code tt refl

-- a row with a new `id` key joins the others, and the answer is that no row was there
pub put_adds : among_users (ann ∷ cy ∷ []) (put_user bob)
    ≡ Ok (with_users (ann ∷ bob ∷ cy ∷ []), None)
put_adds = refl

-- a row takes the place of the one with its `id` key, which is the answer
pub put_replaces : among_users (ann ∷ bob ∷ []) (put_user older_ann)
    ≡ Ok (with_users (older_ann ∷ bob ∷ []), Some ann)
put_replaces = refl

-- it is not answered that no row was there
pub replaced_row_is_answered : among_users (ann ∷ bob ∷ []) (put_user older_ann)
    ≢ Ok (with_users (older_ann ∷ bob ∷ []), None)
replaced_row_is_answered = apart step_code tt refl

-- the old row does not stay beside the new one
pub replaced_row_goes : among_users (ann ∷ bob ∷ []) (put_user older_ann)
    ≢ Ok (with_users (older_ann ∷ ann ∷ bob ∷ []), Some ann)
replaced_row_goes = apart step_code tt refl

-- ---- keys that are taken

abbrev ann_with_mail : Fields
ann_with_mail = mailed (codes "ann") 1 (codes "m")

abbrev bob_with_mail : Fields
bob_with_mail = mailed (codes "bob") 2 (codes "m")

-- a second row with a key of a unique index is refused, at that index's place
pub taken_mail : among_users (ann_with_mail ∷ []) (put_user bob_with_mail) ≡ Err (key_taken 2)
taken_mail = refl

-- not at the place of the index before it
pub taken_at_its_place : among_users (ann_with_mail ∷ []) (put_user bob_with_mail)
    ≢ Err (key_taken 1)
taken_at_its_place = apart step_code tt refl

-- without that key the row joins
pub put_without_taken_key : among_users (ann_with_mail ∷ []) (put_user bob)
    ≡ Ok (with_users (ann_with_mail ∷ bob ∷ []), None)
put_without_taken_key = refl

-- a row may have the keys of the row whose place it takes
pub own_key_is_free :
    among_users (ann_with_mail ∷ []) (put_user (mailed (codes "ann") 5 (codes "m")))
    ≡ Ok (with_users (mailed (codes "ann") 5 (codes "m") ∷ []), Some ann_with_mail)
own_key_is_free = refl

-- the name is `b`, 00, `c`, and the tag `a`
abbrev zero_in_name : Fields
zero_in_name = tagged (98 ∷ 0 ∷ 99 ∷ []) ((97 ∷ []) ∷ [])

-- the name is `c`, and the tag `a`, 00, `b`
abbrev zero_in_tag : Fields
zero_in_tag = tagged (99 ∷ []) ((97 ∷ 0 ∷ 98 ∷ []) ∷ [])

-- two keys that differ, each with its row's `id` key behind it, may be one full key
pub joined_keys_are_equal : full_keys users_table tags_index zero_in_name
    ≡ full_keys users_table tags_index zero_in_tag
joined_keys_are_equal = refl

-- then the second row is refused, though rows may share a key of this index
pub joined_key_is_taken : among_users (zero_in_name ∷ []) (put_user zero_in_tag)
    ≡ Err (key_taken 3)
joined_key_is_taken = refl

-- two texts, which may be missing
abbrev two_texts : Bytes → Bytes → Indexer
two_texts a b = compound (part (str a false) (part (str b false) no_parts)) true

abbrev id_of_two : IndexSchema
id_of_two = record {
  name = codes "id";
  unique = true;
  allow_missing = false;
  indexer = two_texts (codes "c") (codes "d");
}

abbrev shared_of_two : IndexSchema
shared_of_two = record {
  name = codes "x";
  unique = false;
  allow_missing = false;
  indexer = two_texts (codes "a") (codes "b");
}

abbrev pairs_table : TableSchema
pairs_table = record { name = codes "pairs"; tracked = false; indexes = id_of_two ∷ shared_of_two ∷ [] }

-- its keys are `k` in `x`, and `l`, `m` in `id`
abbrev one_and_two : Fields
one_and_two =
    (codes "a", text (codes "k")) ∷ (codes "c", text (codes "l")) ∷
    (codes "d", text (codes "m")) ∷ []

-- its keys are `k`, `l` in `x`, and `m` in `id`
abbrev two_and_one : Fields
two_and_one =
    (codes "a", text (codes "k")) ∷ (codes "b", text (codes "l")) ∷
    (codes "c", text (codes "m")) ∷ []

-- parts that may be missing do the same with no byte 00 in any text
pub joined_parts_are_taken : put_row pairs_table two_and_one (one_and_two ∷ [])
    ≡ Err (key_taken 1)
joined_parts_are_taken = refl

-- ---- removes

-- the row with the `id` key goes, whatever else the given row has, and is the answer
pub remove_takes_out : among_users (ann ∷ bob ∷ []) (remove_user (only_name (codes "ann")))
    ≡ Ok (with_users (bob ∷ []), Some ann)
remove_takes_out = refl

-- the answer is the row that was there, and not the given one
pub removed_row_is_answered :
    among_users (ann ∷ bob ∷ []) (remove_user (only_name (codes "ann")))
    ≢ Ok (with_users (bob ∷ []), Some (only_name (codes "ann")))
removed_row_is_answered = apart step_code tt refl

-- a second remove finds no row
pub second_remove_finds_no_row :
    step sample (after (put_user bob ∷ remove_user bob ∷ [])) (remove_user bob) ≡ Err not_found
second_remove_finds_no_row = refl

-- ---- writes one after the other

-- a refused write changes nothing, and those after it count
pub refused_writes_are_passed_over : after_writes sample (with_users (ann_with_mail ∷ []))
    (put_user bob_with_mail ∷ remove_user cy ∷ put_user bob ∷ [])
    ≡ with_users (ann_with_mail ∷ bob ∷ [])
refused_writes_are_passed_over = refl

-- a write to one table leaves the others
pub other_tables_stay :
    step sample (with_users (ann ∷ [])) (put (codes "notes") (only_name (codes "n")))
    ≡ Ok ([] ∷ (only_name (codes "n") ∷ []) ∷ [] ∷ (ann ∷ []) ∷ [], None)
other_tables_stay = refl

-- two commits, of one write and of two
abbrev two_commits : History
two_commits =
    record { caller = 1; writes = put_user ann ∷ [] } ∷
    record { caller = 1; writes = put_user bob ∷ put_user older_ann ∷ [] } ∷ []

-- before the first commit there are no rows
pub no_rows_at_first : state_at sample two_commits 0 ≡ with_users []
no_rows_at_first = refl

-- after the first commit its row is there
pub after_one_commit : state_at sample two_commits 1 ≡ with_users (ann ∷ [])
after_one_commit = refl

-- after the second commit both its writes are done
pub after_two_commits : state_at sample two_commits 2 ≡ with_users (older_ann ∷ bob ∷ [])
after_two_commits = refl

-- a commit is not seen before its number
pub later_commit_is_not_seen : state_at sample two_commits 1 ≢ with_users (older_ann ∷ bob ∷ [])
later_commit_is_not_seen = apart state_code tt refl

-- the replaced row is no longer found by its age
pub replaced_row_has_no_entry :
    ask sample (state_at sample two_commits 2)
    (query Get (codes "users") (codes "age") (number 3 ∷ []))
    ≡ Ok (Many [])
replaced_row_has_no_entry = refl

-- ---- long keys

abbrev long_name : Fields
long_name = user (replicate 1023 97) 1

-- a name of 1,023 letters has a key of 1,024 bytes, which is stored
pub key_of_1024_bytes : among_users [] (put_user long_name) ≡ Ok (with_users (long_name ∷ []), None)
key_of_1024_bytes = refl

-- with one letter more the key is too long
pub key_of_1025_bytes : among_users [] (put_user (user (replicate 1024 97) 1))
    ≡ Err (bad_key 1 too_long)
key_of_1025_bytes = refl

-- 257 tags are too many, also where they are the same
pub tags_257 : among_users [] (put_user (tagged (codes "a") (replicate 257 (codes "t"))))
    ≡ Err (bad_key 3 too_many)
tags_257 = refl

-- ---- wipes

-- two tags, which both stand behind the one of `bob`
abbrev tagged_ann : Fields
tagged_ann = tagged (codes "ann") (codes "blue" ∷ codes "green" ∷ [])

abbrev tagged_bob : Fields
tagged_bob = tagged (codes "bob") (codes "amber" ∷ [])

abbrev two_tagged : State
two_tagged = with_users (tagged_ann ∷ tagged_bob ∷ [])

abbrev all_tags : Query
all_tags = query Get (codes "users") (codes "tags") []

-- each row is taken out once, in the order in which the index lists them first
pub wipe_takes_each_once : wipe sample two_tagged all_tags
    ≡ Ok (remove_user tagged_bob ∷ remove_user tagged_ann ∷ [])
wipe_takes_each_once = refl

-- a row is not taken out once for each of its keys
pub wipe_takes_none_twice : wipe sample two_tagged all_tags
    ≢ Ok (remove_user tagged_bob ∷ remove_user tagged_ann ∷ remove_user tagged_ann ∷ [])
wipe_takes_none_twice = apart wipe_code tt refl

-- nor are they taken out in the order in which they stand
pub wipe_follows_the_index : wipe sample two_tagged all_tags
    ≢ Ok (remove_user tagged_ann ∷ remove_user tagged_bob ∷ [])
wipe_follows_the_index = apart wipe_code tt refl

-- its writes leave no row that was listed
pub wiped_rows_are_gone :
    after_writes sample (with_users (tagged_ann ∷ tagged_bob ∷ cy ∷ []))
    (remove_user tagged_bob ∷ remove_user tagged_ann ∷ [])
    ≡ with_users (cy ∷ [])
wiped_rows_are_gone = refl

-- the rows are those that Get lists, whatever the word of the question
pub wipe_is_of_get : wipe sample two_tagged
    (query Longest (codes "users") (codes "tags") (texts (codes "amber" ∷ [])))
    ≡ Ok (remove_user tagged_bob ∷ [])
wipe_is_of_get = refl

-- by the start of a key
pub wipe_of_a_start : wipe_by_prefix sample two_tagged
    (query Get (codes "users") (codes "tags_prefix") (texts (codes "bl" ∷ [])))
    ≡ Ok (remove_user tagged_ann ∷ [])
wipe_of_a_start = refl

-- where no row is listed there is nothing to write
pub wipe_of_no_rows : wipe sample two_tagged (query Get (codes "users") (codes "mail") [])
    ≡ Ok []
wipe_of_no_rows = refl
