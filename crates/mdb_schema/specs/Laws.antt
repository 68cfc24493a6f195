-- What holds of every lawful state.
use Rattle.std.specs.Prelude.{◌≡◌, ◌≢◌, ℕ, List, [], Option, Some, Ok, IsTrue, Contains}
use Rattle.std.specs.FinMap as finite
use Rattle.mdb_datum.specs.Row.{Fields}
use Rattle.mdb_encode.specs.Bytes.{Bytes, byte_order}
use Rattle.mdb_schema.specs.Entries.{entries}
use Rattle.mdb_schema.specs.History.{History, after_writes, state_at}
use Rattle.mdb_schema.specs.LawfulSchema.{IsLawfulSchema}
use Rattle.mdb_schema.specs.Query.{Query}
use Rattle.mdb_schema.specs.Schema.{IndexSchema, TableSchema, DbSchema}
use Rattle.mdb_schema.specs.State.{State, Table, table_at, IsLawfulState, AreLawfulRows, full_keys}
use Rattle.mdb_schema.specs.Wipe.{wipe, wiped_rows, without_rows}
use Rattle.mdb_schema.specs.Write.{Write, step}

-- a step keeps a lawful state lawful
abbrev pub StepKeeps : Type 0
StepKeeps =
    (schema : DbSchema) (s : State) (w : Write) (after : State × Option Fields)
    → IsLawfulState schema s → step schema s w ≡ Ok after → IsLawfulState schema after.0

-- and so the state after any commits of any history is lawful
abbrev pub HistoryKeeps : Type 0
HistoryKeeps = (schema : DbSchema) (H : History) (n : ℕ) → IsLawfulState schema (state_at schema H n)

-- each full key of a row is an entry with that row
abbrev pub EachKeyIsAnEntry : Type 0
EachKeyIsAnEntry =
    (t : TableSchema) (i : IndexSchema) (rows : List Fields) (row : Fields) (key : Bytes)
    → AreLawfulRows t rows → Contains t.indexes i
    → Contains rows row → Contains (full_keys t i row) key → Contains (entries t i rows) (key, row)

-- each entry is a full key of a row, with that row
abbrev pub EachEntryIsAKey : Type 0
EachEntryIsAKey =
    (t : TableSchema) (i : IndexSchema) (rows : List Fields) (row : Fields) (key : Bytes)
    → Contains (entries t i rows) (key, row) → Contains rows row × Contains (full_keys t i row) key

-- the entries rise by their keys, so that no two have one key
abbrev pub EntriesRise : Type 0
EntriesRise =
    (t : TableSchema) (i : IndexSchema) (rows : List Fields)
    → IsTrue (finite.is_sorted byte_order (entries t i rows))

-- what a wipe leaves: in its table the rows that it doesn't list, and the other tables as they are
pub record Leaves (schema : DbSchema) (s : State) (q : Query) (ws : List Write) : Type 0 where
  pub table : Table
  pub gone : List Fields
  pub there : table_at schema s q.table ≡ Some table
  pub listed : wiped_rows table.schema table.rows q ≡ Ok gone
  pub left : table_at schema (after_writes schema s ws) q.table
      ≡ Some (record table { rows = without_rows table.schema gone table.rows })
  pub others : (name : Bytes) → name ≢ q.table
      → table_at schema (after_writes schema s ws) name ≡ table_at schema s name

abbrev pub WipeLeaves : Type 0
WipeLeaves =
    (schema : DbSchema) (s : State) (q : Query) (ws : List Write)
    → IsLawfulSchema schema → IsLawfulState schema s
    → wipe schema s q ≡ Ok ws → Leaves schema s q ws

-- a wipe of nothing changes nothing
abbrev pub WipeOfNothing : Type 0
WipeOfNothing =
    (schema : DbSchema) (s : State) (q : Query)
    → wipe schema s q ≡ Ok [] → after_writes schema s [] ≡ s
