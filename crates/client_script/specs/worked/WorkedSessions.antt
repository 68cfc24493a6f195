-- Worked sessions: what a client that is alone is told, line by line. What it is told is legal
-- output, and no other output is (`AloneIsLegal`, `FewWrites`).
use Rattle.std.specs.Prelude.{◌≡◌, ◌≢◌, ◌∷◌, ◌++◌, [], Some, None, slice_get, codes, refl}
use Rattle.mdb_datum.proofs.OnLiterals.{reading_on_literals}
use Rattle.mdb_datum.specs.Bytes.{Bytes}
use Rattle.mdb_schema.specs.declared.answer.Answer.TheVariants.{One, Many}
use Rattle.mdb_schema.specs.worked.Apart.{apart}
use Rattle.mdb_schema.specs.worked.Sample.{user, mailed}
use Rattle.client_script.specs.Reply.{read_at, write_at, ended, committed, aborted, inserted, replaced, deleted, wiped, deferred, answered, snapshot_at, snapshot_within, refused}
use Rattle.client_script.specs.worked.Told.{replies_to, reply_code}

-- ---- a row is committed, read, replaced, and read again

abbrev own_commit : Bytes
own_commit =
    codes "write\n" ++
    codes "insert users {\"name\":\"ann\",\"age\":3}\n" ++
    codes "commit\n" ++
    codes "read\n" ++
    codes "first users id [\"ann\"]\n" ++
    codes "end\n" ++
    codes "write\n" ++
    codes "insert users {\"name\":\"ann\",\"age\":4}\n" ++
    codes "commit\n" ++
    codes "read\n" ++
    codes "get users age [3]\n" ++
    codes "get users age [4]\n"

pub own_commit_told : replies_to own_commit ≡
    write_at 0
    ∷ inserted
    ∷ committed 1 [] []
    ∷ read_at 1
    ∷ answered (One (Some (user (codes "ann") 3)))
    ∷ ended
    ∷ write_at 1
    ∷ replaced
    ∷ committed 2 [] []
    ∷ read_at 2
    ∷ answered (Many [])
    ∷ answered (Many ((user (codes "ann") 4) ∷ []))
    ∷ []
unfolding reading_on_literals
own_commit_told = refl

-- a commit tells its own number, and not that of the one before
pub commit_tells_its_own_number : slice_get (replies_to own_commit) 2 ≢ Some (committed 0 [] [])
commit_tells_its_own_number = rw own_commit_told (apart reply_code tt refl)

-- a row with the `id` of another takes its place
pub second_insert_replaces : slice_get (replies_to own_commit) 7 ≢ Some inserted
second_insert_replaces = rw own_commit_told (apart reply_code tt refl)

-- a transaction begins after all commits
pub read_begins_after_all : slice_get (replies_to own_commit) 9 ≢ Some (read_at 1)
read_begins_after_all = rw own_commit_told (apart reply_code tt refl)

-- the row that was replaced is not found
pub replaced_row_is_gone : slice_get (replies_to own_commit) 10 ≢ Some (answered (Many ((user (codes "ann") 3) ∷ [])))
replaced_row_is_gone = rw own_commit_told (apart reply_code tt refl)

-- ---- a transaction sees its own writes, in the order of the keys; a snapshot keeps its rows

abbrev own_writes : Bytes
own_writes =
    codes "read\n" ++
    codes "get users id []\n" ++
    codes "snapshot s\n" ++
    codes "in s get users id\n" ++
    codes "end\n" ++
    codes "write\n" ++
    codes "insert users {\"name\":\"cy\",\"age\":1}\n" ++
    codes "insert users {\"name\":\"bob\",\"age\":2}\n" ++
    codes "insert users {\"name\":\"ann\",\"age\":3}\n" ++
    codes "get users id\n" ++
    codes "last users id\n" ++
    codes "in s get users id\n" ++
    codes "commit\n" ++
    codes "in s get users id\n"

pub own_writes_told : replies_to own_writes ≡
    read_at 0
    ∷ answered (Many [])
    ∷ snapshot_at 0
    ∷ answered (Many [])
    ∷ ended
    ∷ write_at 0
    ∷ inserted
    ∷ inserted
    ∷ inserted
    ∷ answered (Many ((user (codes "ann") 3) ∷ (user (codes "bob") 2) ∷ (user (codes "cy") 1) ∷ []))
    ∷ answered (One (Some (user (codes "cy") 1)))
    ∷ answered (Many [])
    ∷ committed 1 [] []
    ∷ answered (Many [])
    ∷ []
unfolding reading_on_literals
own_writes_told = refl

-- rows come in the order of their keys, and not in that of the writes
pub rows_come_by_key : slice_get (replies_to own_writes) 9 ≢ Some (answered (Many ((user (codes "cy") 1) ∷ (user (codes "bob") 2) ∷ (user (codes "ann") 3) ∷ [])))
rows_come_by_key = rw own_writes_told (apart reply_code tt refl)

-- a snapshot does not see later commits
pub snapshot_stays : slice_get (replies_to own_writes) 13 ≢ Some (answered (Many ((user (codes "ann") 3) ∷ (user (codes "bob") 2) ∷ (user (codes "cy") 1) ∷ [])))
snapshot_stays = rw own_writes_told (apart reply_code tt refl)

-- ---- a full key that another row has

abbrev taken_key : Bytes
taken_key =
    codes "write\n" ++
    codes "insert users {\"name\":\"ann\",\"age\":1,\"mail\":\"m\"}\n" ++
    codes "insert users {\"name\":\"bob\",\"age\":2,\"mail\":\"m\"}\n" ++
    codes "insert users {\"name\":\"bob\",\"age\":2}\n" ++
    codes "get users mail\n" ++
    codes "commit\n"

pub taken_key_told : replies_to taken_key ≡
    write_at 0
    ∷ inserted
    ∷ refused (codes "key-taken mail")
    ∷ inserted
    ∷ answered (Many ((mailed (codes "ann") 1 (codes "m")) ∷ []))
    ∷ committed 1 [] []
    ∷ []
unfolding reading_on_literals
taken_key_told = refl

-- a line that is refused changes nothing
pub refused_line_changes_nothing : slice_get (replies_to taken_key) 3 ≢ Some replaced
refused_line_changes_nothing = rw taken_key_told (apart reply_code tt refl)

-- ---- a snapshot of a transaction keeps its writes so far; an abort leaves nothing

abbrev uncommitted_snapshot : Bytes
uncommitted_snapshot =
    codes "write\n" ++
    codes "insert users {\"name\":\"a\",\"age\":1}\n" ++
    codes "snapshot s\n" ++
    codes "delete users {\"name\":\"a\"}\n" ++
    codes "in s get users id\n" ++
    codes "get users id\n" ++
    codes "abort\n" ++
    codes "in s first users id [\"a\"]\n" ++
    codes "read\n" ++
    codes "get users id\n" ++
    codes "snapshot s\n" ++
    codes "in t get users id\n"

pub uncommitted_snapshot_told : replies_to uncommitted_snapshot ≡
    write_at 0
    ∷ inserted
    ∷ snapshot_within 0
    ∷ deleted
    ∷ answered (Many ((user (codes "a") 1) ∷ []))
    ∷ answered (Many [])
    ∷ aborted
    ∷ answered (One (Some (user (codes "a") 1)))
    ∷ read_at 0
    ∷ answered (Many [])
    ∷ refused (codes "name-taken")
    ∷ refused (codes "unknown-name")
    ∷ []
unfolding reading_on_literals
uncommitted_snapshot_told = refl

-- a snapshot does not follow its transaction
pub snapshot_does_not_follow : slice_get (replies_to uncommitted_snapshot) 4 ≢ Some (answered (Many []))
snapshot_does_not_follow = rw uncommitted_snapshot_told (apart reply_code tt refl)

-- an abort keeps no write
pub aborted_row_is_gone : slice_get (replies_to uncommitted_snapshot) 9 ≢ Some (answered (Many ((user (codes "a") 1) ∷ [])))
aborted_row_is_gone = rw uncommitted_snapshot_told (apart reply_code tt refl)

-- ---- a row can be deleted once

abbrev repeated : Bytes
repeated =
    codes "write\n" ++
    codes "insert users {\"name\":\"bob\",\"age\":2}\n" ++
    codes "delete users {\"name\":\"bob\"}\n" ++
    codes "delete users {\"name\":\"bob\"}\n" ++
    codes "commit\n" ++
    codes "read\n"

pub repeated_told : replies_to repeated ≡
    write_at 0
    ∷ inserted
    ∷ deleted
    ∷ refused (codes "not-found")
    ∷ committed 1 [] []
    ∷ read_at 1
    ∷ []
unfolding reading_on_literals
repeated_told = refl

-- the second delete finds no row
pub deleted_once : slice_get (replies_to repeated) 3 ≢ Some deleted
deleted_once = rw repeated_told (apart reply_code tt refl)

-- ---- each rule, in the order of the rules

abbrev each_rule : Bytes
each_rule =
    codes "insert users {\"name\":\"a\",\"age\":1}\n" ++
    codes "read\n" ++
    codes "write\n" ++
    codes "insert users {\"name\":\"a\",\"age\":1}\n" ++
    codes "get user id\n" ++
    codes "get users ids\n" ++
    codes "get users age_prefix [1]\n" ++
    codes "get users age [\"1\"]\n" ++
    codes "get users age [1,2]\n" ++
    codes "longest users id [\"a\"]\n" ++
    codes "longest users tags_prefix [\"a\"]\n" ++
    codes "commit\n" ++
    codes "end\n" ++
    codes "end\n" ++
    codes "write\n" ++
    codes "end\n" ++
    codes "insert users {\"age\":1}\n" ++
    codes "insert users {\"name\":5,\"age\":1}\n" ++
    codes "insert users {\"name\":\"a\"}\n" ++
    codes "insert users {\"name\":\"a\",\"age\":70000}\n" ++
    codes "insert users {\"name\":\"a\",\"age\":1,\"tags\":\"x\"}\n" ++
    codes "insert users {\"name\":\"\",\"age\":1}\n" ++
    codes "insert user {\"name\":\"a\"}\n" ++
    codes "delete-prefix users id [\"a\"]\n" ++
    codes "abort\n" ++
    codes "abort\n"

pub each_rule_told : replies_to each_rule ≡
    refused (codes "no-transaction")
    ∷ read_at 0
    ∷ refused (codes "transaction-open")
    ∷ refused (codes "read-only")
    ∷ refused (codes "unknown-table")
    ∷ refused (codes "unknown-index")
    ∷ refused (codes "no-prefix-form")
    ∷ refused (codes "arg-kind")
    ∷ refused (codes "arg-count")
    ∷ refused (codes "no-prefix-name")
    ∷ refused (codes "not-unique")
    ∷ refused (codes "read-only")
    ∷ ended
    ∷ refused (codes "no-transaction")
    ∷ write_at 0
    ∷ refused (codes "write-open")
    ∷ refused (codes "no-id")
    ∷ refused (codes "wrong-kind id")
    ∷ refused (codes "missing age")
    ∷ refused (codes "out-of-range age")
    ∷ refused (codes "wrong-kind tags")
    ∷ refused (codes "no-id")
    ∷ refused (codes "unknown-table")
    ∷ refused (codes "no-prefix-name")
    ∷ aborted
    ∷ refused (codes "no-transaction")
    ∷ []
unfolding reading_on_literals
each_rule_told = refl

-- the open transaction is judged before the row
pub write_in_a_read_transaction : slice_get (replies_to each_rule) 3 ≢ Some (refused (codes "no-transaction"))
write_in_a_read_transaction = rw each_rule_told (apart reply_code tt refl)

-- the table is judged before the index
pub table_before_index : slice_get (replies_to each_rule) 4 ≢ Some (refused (codes "unknown-index"))
table_before_index = rw each_rule_told (apart reply_code tt refl)

-- a rule of an index tells the index
pub rule_names_its_index : slice_get (replies_to each_rule) 18 ≢ Some (refused (codes "missing"))
rule_names_its_index = rw each_rule_told (apart reply_code tt refl)

-- ---- a text ends where it ends, unless the index is asked by its name with `_prefix`

abbrev end_byte : Bytes
end_byte =
    codes "write\n" ++
    codes "insert users {\"name\":\"ann\",\"age\":1}\n" ++
    codes "insert users {\"name\":\"anna\",\"age\":2}\n" ++
    codes "get users id [\"ann\"]\n" ++
    codes "get users id_prefix [\"ann\"]\n" ++
    codes "first users id [\"an\"]\n" ++
    codes "get-reverse users id_prefix [\"an\"]\n"

pub end_byte_told : replies_to end_byte ≡
    write_at 0
    ∷ inserted
    ∷ inserted
    ∷ answered (Many ((user (codes "ann") 1) ∷ []))
    ∷ answered (Many ((user (codes "ann") 1) ∷ (user (codes "anna") 2) ∷ []))
    ∷ answered (One None)
    ∷ answered (Many ((user (codes "anna") 2) ∷ (user (codes "ann") 1) ∷ []))
    ∷ []
unfolding reading_on_literals
end_byte_told = refl

-- a longer text is not asked for by the start of it
pub whole_text_is_asked : slice_get (replies_to end_byte) 3 ≢ Some (answered (Many ((user (codes "ann") 1) ∷ (user (codes "anna") 2) ∷ [])))
whole_text_is_asked = rw end_byte_told (apart reply_code tt refl)

-- ---- numbers of two bytes, from a bound on and down to one

abbrev number_bounds : Bytes
number_bounds =
    codes "write\n" ++
    codes "insert users {\"name\":\"x\",\"age\":255}\n" ++
    codes "insert users {\"name\":\"y\",\"age\":256}\n" ++
    codes "lower users age [256]\n" ++
    codes "lower users age [65536]\n" ++
    codes "reverse-lower users age [256]\n" ++
    codes "reverse-lower users age [257]\n" ++
    codes "reverse-lower users age []\n"

pub number_bounds_told : replies_to number_bounds ≡
    write_at 0
    ∷ inserted
    ∷ inserted
    ∷ answered (Many ((user (codes "y") 256) ∷ []))
    ∷ refused (codes "out-of-range")
    ∷ answered (Many ((user (codes "x") 255) ∷ []))
    ∷ answered (Many ((user (codes "y") 256) ∷ (user (codes "x") 255) ∷ []))
    ∷ refused (codes "arg-count")
    ∷ []
unfolding reading_on_literals
number_bounds_told = refl

-- the bound is compared with full keys, which go on with the `id` key
pub full_keys_are_compared : slice_get (replies_to number_bounds) 5 ≢ Some (answered (Many ((user (codes "y") 256) ∷ (user (codes "x") 255) ∷ [])))
full_keys_are_compared = rw number_bounds_told (apart reply_code tt refl)

-- ---- wipes tell how many rows they took out, and deferred texts are handed out the last first

abbrev wipes : Bytes
wipes =
    codes "write\n" ++
    codes "insert users {\"name\":\"ann\",\"age\":1}\n" ++
    codes "insert users {\"name\":\"anna\",\"age\":2}\n" ++
    codes "insert users {\"name\":\"bob\",\"age\":1}\n" ++
    codes "defer the first\n" ++
    codes "defer the second\n" ++
    codes "delete-prefix users id_prefix [\"ann\"]\n" ++
    codes "delete-all users age [1]\n" ++
    codes "get users id\n" ++
    codes "commit\n" ++
    codes "write\n" ++
    codes "commit\n"

pub wipes_told : replies_to wipes ≡
    write_at 0
    ∷ inserted
    ∷ inserted
    ∷ inserted
    ∷ deferred
    ∷ deferred
    ∷ wiped 2
    ∷ wiped 1
    ∷ answered (Many [])
    ∷ committed 1 [] ((codes "the second") ∷ (codes "the first") ∷ [])
    ∷ write_at 1
    ∷ committed 2 [] []
    ∷ []
unfolding reading_on_literals
wipes_told = refl

-- deferred texts do not come in the order of deferral
pub last_deferred_is_first : slice_get (replies_to wipes) 9 ≢ Some (committed 1 [] ((codes "the first") ∷ (codes "the second") ∷ []))
last_deferred_is_first = rw wipes_told (apart reply_code tt refl)

-- they are handed out once
pub texts_are_handed_out_once : slice_get (replies_to wipes) 11 ≢ Some (committed 2 [] ((codes "the second") ∷ (codes "the first") ∷ []))
texts_are_handed_out_once = rw wipes_told (apart reply_code tt refl)

-- a wipe counts rows
pub wipe_counts_rows : slice_get (replies_to wipes) 6 ≢ Some (wiped 3)
wipe_counts_rows = rw wipes_told (apart reply_code tt refl)
