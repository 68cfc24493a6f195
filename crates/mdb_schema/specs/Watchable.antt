-- Questions whose answers may be watched, which of them look up one entry, and the commits that
-- touch what a question looks at.
use Rattle.std.specs.Prelude.{◌≡◌, ◌≤◌, ◌<◌, ◌&&◌, ℕ, Bool, true, false, Some, Ok, slice_get}
use Rattle.mdb_datum.specs.Row.{Fields}
use Rattle.mdb_encode.specs.Bytes.{Bytes}
use Rattle.mdb_schema.specs.Answer.{Lookup, ask, is_exact, lookup_of}
use Rattle.mdb_schema.specs.History.{Commit, History, state_at}
use Rattle.mdb_schema.specs.Query.{Query}
use Rattle.mdb_schema.specs.Schema.{DbSchema, IndexSchema, TableSchema, table_place}
use Rattle.mdb_schema.specs.Touched.{Touch}
use Rattle.mdb_schema.specs.declared.answer.Answer.TheVariants.{One}
use Rattle.mdb_schema.specs.declared.ask.Ask.{Ask}
use Rattle.mdb_schema.specs.declared.ask.Ask.TheVariants.{First, Last, Lower, ReverseLower, Longest}

-- a question for bounds, or for the longest key, isn't watched
abbrev pub is_watchable : Ask → Bool
is_watchable Lower = false
is_watchable ReverseLower = false
is_watchable Longest = false
is_watchable a = true

-- a question for one row, the first or the last
abbrev pub is_for_one : Ask → Bool
is_for_one First = true
is_for_one Last = true
is_for_one a = false

-- a question for one row looks up the entry of a very key where it names one; each other question
-- is for the entries whose keys begin with its key
abbrev pub looks_up : IndexSchema → Query → Bool
looks_up i q = is_for_one q.ask && is_exact i q

-- the question looks up one entry, and found it after commit v
pub record HasFound (schema : DbSchema) (H : History) (q : Query) (v : ℕ) (at : Lookup) : Type 0 where
  pub one : looks_up at.index q ≡ true
  pub row : Fields
  pub found : ask schema (state_at schema H v) q ≡ Ok (One (Some row))

-- One of the commits v + 1 to n touched a full key of the question's index, and that entry's own
-- where the question looks up one and found it after commit v. The answer need not have changed.
pub record IsTouched (schema : DbSchema) (H : History) (q : Query) (v n : ℕ) : Type 0 where
  pub place : ℕ
  pub named : table_place q.table schema ≡ Some place
  pub table : TableSchema
  pub there : slice_get schema place ≡ Some table
  pub at : Lookup
  pub looked : lookup_of table q ≡ Ok at
  -- how many commits came before that one
  pub before : ℕ
  pub since : v ≤ before
  pub reached : before < n
  pub commit : Commit
  pub made : slice_get H before ≡ Some commit
  pub key : Bytes
  pub touched : Touch schema (state_at schema H before) commit.writes table at.index key
  pub own : HasFound schema H q v at → key ≡ at.key
