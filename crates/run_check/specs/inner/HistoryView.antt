-- A store while a commit is being made.
use Rattle.std.specs.Prelude.{◌≡◌, ◌+◌, ◌++◌, ◌⊎◌, ℕ, List, [], ◌∷◌, length, Err}
use Rattle.mdb_datum.specs.Bytes.{Bytes}
use Rattle.mdb_datum.specs.Row.{Fields}
use Rattle.mdb_schema.specs.History.{Commit, History, state_at}
use Rattle.mdb_schema.specs.LawfulSchema.{IsLawfulSchema}
use Rattle.mdb_schema.specs.Schema.{DbSchema, TableSchema}
use Rattle.mdb_schema.specs.State.{State}
use Rattle.mdb_schema.specs.Write.{Changed, Tested, Write, WriteRefusal, put, put_row, remove, remove_row}
use Rattle.run_check.specs.Commits.{Committed, accepted_step, followed, history_of}
use Rattle.run_check.specs.declared.history.Edit.{Edit}
use Rattle.run_check.specs.declared.history.Edit.TheVariants as edits
use Rattle.run_check.specs.declared.sight.Stamp.{Stamp}
use Rattle.run_check.specs.declared.store.Store as store
use Rattle.run_check.specs.inner.EditView.{HasChanged}
use Rattle.run_check.specs.inner.IndexView.{KeyVersions}
use Rattle.run_check.specs.inner.StoreView.{StandsFor}

-- it stands for these commits and for the one behind them, of this number, so far as that is made
pub record IsMaking (schema : DbSchema) (H : History) (c : Commit) (number : ℕ) (st : store.Store)
    : Type 0 where
  pub lawful : IsLawfulSchema schema
  pub last : number ≡ length H + 1
  pub stands : StandsFor schema (H ++ c ∷ []) [] st

abbrev pub IsBegun : DbSchema → ℕ → store.Store → Type 0
IsBegun schema number st = (H : History) × (c : Commit) × IsMaking schema H c number st

abbrev pub with_writes : Commit → List Write → Commit
with_writes c ws = record { caller = c.caller; writes = c.writes ++ ws }

-- the commit has these writes more, by the state on which they are made
abbrev pub Makes : DbSchema → ℕ → (State → List Write) → store.Store → store.Store → Type 0
Makes schema number writes old new = (H : History) (c : Commit) → IsMaking schema H c number old
    → IsMaking schema H (with_writes c (writes (state_at schema (H ++ c ∷ []) number))) number new

-- a write is done in the indexes of a table, or it is refused and nothing has changed
abbrev pub IsDone : TableSchema → List Fields → List Fields → Tested Changed → Stamp
    → List KeyVersions → List KeyVersions → Type 0
IsDone t rows added told stamp old new =
    HasChanged t rows added told stamp old new
    ⊎ ((why : WriteRefusal) × (told ≡ Err why) × (new ≡ old))

-- a row is put, or the row of its `id` key is taken out
abbrev pub edited : Edit → Bytes → Fields → Write
edited edits.Put name row = put name row
edited edits.Remove name row = remove name row

-- so it is in its table
abbrev pub row_edited : Edit → TableSchema → Fields → List Fields → Tested Changed
row_edited edits.Put t row rows = put_row t row rows
row_edited edits.Remove t row rows = remove_row t row rows

-- the rows that are put
abbrev pub rows_put : Edit → Fields → List Fields
rows_put edits.Put row = row ∷ []
rows_put edits.Remove row = []

-- rows are taken out one after the other, each where it is still there
abbrev pub removed_each : DbSchema → Bytes → List Fields → State → List Write
removed_each schema name [] s = []
removed_each schema name (r ∷ rs) s =
    followed schema s (accepted_step schema s (remove name r)) (removed_each schema name rs)

-- a store stands for the first so many commits
abbrev pub HasMade : DbSchema → List Committed → ℕ → store.Store → Type 0
HasMade schema cs n st =
    (length (history_of schema cs n) ≡ n) × StandsFor schema (history_of schema cs n) [] st
