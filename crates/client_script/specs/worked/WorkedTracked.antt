-- A worked session over two tables of which one is tracked: what its commits are told to change.
use Rattle.std.specs.Prelude.{◌≡◌, ◌≢◌, ◌∷◌, ◌++◌, pos, ℕ, [], Option, Some, None, Ok, slice_get, codes, refl}
use Rattle.mdb_datum.proofs.OnLiterals.{reading_on_literals}
use Rattle.mdb_datum.specs.Bytes.{Bytes}
use Rattle.mdb_datum.specs.Doc.{text, whole}
use Rattle.mdb_datum.specs.Reading as documents
use Rattle.mdb_datum.specs.Row.{Fields}
use Rattle.mdb_schema.specs.Reading.{schema_of}
use Rattle.mdb_schema.specs.worked.Apart.{apart}
use Rattle.mdb_schema.specs.worked.Sample.{only_name}
use Rattle.mdb_schema.specs.worked.TrackedTables.{two_tables}
use Rattle.client_script.specs.Reply.{Changed, Reply, write_at, committed, inserted, replaced, deleted, deferred}
use Rattle.client_script.specs.worked.Told.{replies_over, reply_code}

abbrev schema_text : Bytes
schema_text =
    codes "{\"memdb\":2,\"tables\":{\n" ++
    codes "\"t\":{\"tracked\":true,\"indexes\":{\"id\":{\"unique\":true,\"indexer\":{\"kind\":\"text\",\"field\":\"name\"}}}},\n" ++
    codes "\"u\":{\"indexes\":{\"id\":{\"unique\":true,\"indexer\":{\"kind\":\"text\",\"field\":\"name\"}}}}}}\n"

pub two_tables_are_read : schema_of (documents.reading schema_text) ≡ Ok two_tables
unfolding reading_on_literals
two_tables_are_read = refl

abbrev changes : Bytes
changes =
    codes "write\n" ++
    codes "insert t {\"name\":\"b\",\"n\":1}\n" ++
    codes "insert t {\"name\":\"a\"}\n" ++
    codes "insert u {\"name\":\"z\"}\n" ++
    codes "commit\n" ++
    codes "write\n" ++
    codes "insert t {\"name\":\"b\",\"n\":2}\n" ++
    codes "insert t {\"name\":\"c\"}\n" ++
    codes "delete t {\"name\":\"c\"}\n" ++
    codes "insert t {\"name\":\"a\"}\n" ++
    codes "defer x\n" ++
    codes "commit\n" ++
    codes "write\n" ++
    codes "delete t {\"name\":\"a\"}\n" ++
    codes "commit\n"

-- {"n":N,"name":"b"}
abbrev b_with : ℕ → Fields
b_with n = (codes "n", whole (pos n)) ∷ (codes "name", text (codes "b")) ∷ []

abbrev a : Fields
a = only_name (codes "a")

-- a change of a row of the table `t`
abbrev of_t : Option Fields → Option Fields → Changed
of_t before after = record { table = codes "t"; before = before; after = after }

pub changes_told : replies_over two_tables changes ≡
    write_at 0
    ∷ inserted
    ∷ inserted
    ∷ inserted
    ∷ committed 1 (of_t None (Some a) ∷ of_t None (Some (b_with 1)) ∷ []) []
    ∷ write_at 1
    ∷ replaced
    ∷ inserted
    ∷ deleted
    ∷ replaced
    ∷ deferred
    ∷ committed 2 (of_t (Some (b_with 1)) (Some (b_with 2)) ∷ []) (codes "x" ∷ [])
    ∷ write_at 2
    ∷ deleted
    ∷ committed 3 (of_t (Some a) None ∷ []) []
    ∷ []
unfolding reading_on_literals
changes_told = refl

-- the reply to the first commit, to the second, and to the third
abbrev reply_at : ℕ → Option Reply
reply_at place = slice_get (replies_over two_tables changes) place

-- changes come in the order of the keys, and not in that of the writes
pub changes_come_by_key : reply_at 4 ≢ Some (committed 1 (of_t None (Some (b_with 1)) ∷ of_t None (Some a) ∷ []) [])
changes_come_by_key = rw changes_told (apart reply_code tt refl)

-- a row of a table that isn't tracked is no change
pub untracked_table_is_silent : reply_at 4 ≢ Some (committed 1 (of_t None (Some a) ∷ of_t None (Some (b_with 1)) ∷ record {
  table = codes "u";
  before = None;
  after = Some (only_name (codes "z"));
} ∷ []) [])
untracked_table_is_silent = rw changes_told (apart reply_code tt refl)

-- a row that is replaced by an equal one is no change
pub equal_row_is_no_change : reply_at 11 ≢ Some (committed 2 (of_t (Some a) (Some a) ∷ of_t (Some (b_with 1)) (Some (b_with 2)) ∷ []) (codes "x" ∷ []))
equal_row_is_no_change = rw changes_told (apart reply_code tt refl)

-- the row before comes first
pub before_comes_first : reply_at 11 ≢ Some (committed 2 (of_t (Some (b_with 2)) (Some (b_with 1)) ∷ []) (codes "x" ∷ []))
before_comes_first = rw changes_told (apart reply_code tt refl)

-- a commit tells the changes since the one before, and not those since the beginning
pub commit_tells_its_own_changes : reply_at 11 ≢ Some (committed 2 (of_t None (Some a) ∷ of_t None (Some (b_with 2)) ∷ []) (codes "x" ∷ []))
commit_tells_its_own_changes = rw changes_told (apart reply_code tt refl)

-- a row that is removed is told with what it was
pub removed_row_is_told : reply_at 14 ≢ Some (committed 3 [] [])
removed_row_is_told = rw changes_told (apart reply_code tt refl)
