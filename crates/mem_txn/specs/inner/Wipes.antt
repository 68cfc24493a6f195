-- Wipes of tables, each at its place in the schema.
use Rattle.std.specs.Prelude.{◌≡◌, ◌⊎◌, ◌≤◌, ◌+◌, ◌*◌, ◌^◌, ◌++◌, ℕ, Bool, true, false, List, length, slice_get, slice_set, Some}
use Rattle.std.specs.Prelude.{Result, Ok, Err, MatchResult}
use Rattle.mdb_datum.specs.Row.{Fields}
use Rattle.mdb_encode.specs.Bytes.{Bytes}
use Rattle.mdb_schema.specs.Answer.{Asked, AskRefusal}
use Rattle.mdb_schema.specs.Query.{Query}
use Rattle.mdb_schema.specs.ErrorsTold.{ask_error}
use Rattle.mdb_schema.specs.Schema.{DbSchema, TableSchema}
use Rattle.mdb_schema.specs.State.{State}
use Rattle.mdb_schema.specs.Wipe.{removals, wipe, wipe_by_prefix, wiped_rows, wiped_rows_by_prefix, without_rows}
use Rattle.mdb_schema.specs.Write.{Write}
use Rattle.radix_node.specs.Ids.{Counter}
use Rattle.table_index.specs.Table.{IsChanged, IsSpent, TableChange}
use Rattle.table_index.specs.declared.wipe_error.WipeError.{WipeError}
use Rattle.table_index.specs.declared.wipe_error.WipeError.TheVariants.{IdsSpent, Memory, Refused}
use Rattle.mem_txn.specs.declared.wipe.Wipe.{Wipe}
use Rattle.mem_txn.specs.declared.wipe.Wipe.TheVariants.{Listed, ByPrefix}
use Rattle.mem_txn.specs.inner.VersionTables.{Adds, Tables}

-- the rows that a wipe of a table takes out
abbrev pub wiped_by : Wipe → TableSchema → List Fields → Query → Asked (List Fields)
wiped_by Listed t rows q = wiped_rows t rows q
wiped_by ByPrefix t rows q = wiped_rows_by_prefix t rows q

-- the writes that it comes to
abbrev pub wipe_by : Wipe → DbSchema → State → Query → Asked (List Write)
wipe_by Listed schema s q = wipe schema s q
wipe_by ByPrefix schema s q = wipe_by_prefix schema s q

-- the error of a wipe of these rows before its first change, or of one that is refused so
abbrev pub Refuses : Asked (List Fields) → WipeError → Type 0
Refuses (Ok gone) e = e ≡ Memory
Refuses (Err why) e = e ≡ Refused (ask_error why)

-- the table without these rows, in other trees
abbrev pub IsWithout : List Fields → TableChange → TableChange → Type 0
IsWithout gone old new = IsChanged (without_rows old.schema gone old.rows) old new

-- the ids after a wipe of so many rows
abbrev pub HasDrawnFor : ℕ → Counter → Counter → Type 0
HasDrawnFor rows ids ids' = ids'.next ≤ ids.next + 2 ^ 26 * rows

-- the error of a wipe of these rows that no rule refuses, with the ids before and after it: too few
-- ids, or want of memory
abbrev pub GivesUp : ℕ → WipeError → Counter → Counter → TableChange → TableChange → Type 0
GivesUp rows e ids ids' old new =
    (IsSpent ids.next rows IdsSpent e old new × (ids' ≡ ids)) ⊎ (e ≡ Memory)

-- the wipe is refused so, and nothing has changed
abbrev pub IsToldWhy : {A : Type 0} → AskRefusal → Result A WipeError → Counter → Counter
    → TableChange → TableChange → Type 0
IsToldWhy why result ids ids' old new =
    (result ≡ Err (Refused (ask_error why))) × (new ≡ old) × (ids' ≡ ids)

-- what a wipe of these rows leaves of a table, and which ids
pub record IsWiped (gone : List Fields) (ids ids' : Counter) (old new : TableChange) : Type 0 where
  pub without : IsWithout gone old new
  pub few : HasDrawnFor (length gone) ids ids'
  pub later : ids.next ≤ ids'.next
  pub adds : Adds gone ids old new

-- the answer of a table to a wipe of these rows, or to one that is refused so: the rows; after want
-- of memory its own rows mean nothing
abbrev pub AnswersGone : Asked (List Fields) → Result (List Fields) WipeError → Counter → Counter
    → TableChange → TableChange → Type 0
AnswersGone (Ok gone) result ids ids' old new =
    MatchResult result
    (λ rows. (rows ≡ gone) × IsWiped gone ids ids' old new)
    (λ e. GivesUp (length gone) e ids ids' old new)
AnswersGone (Err why) result ids ids' old new = IsToldWhy why result ids ids' old new

-- the same of the table at a place of a list
pub record AnswersGoneAt (wiped : TableChange → Asked (List Fields)) (place : ℕ)
    (result : Result (List Fields) WipeError) (old new : Tables) : Type 0 where
  pub before : TableChange
  pub after : TableChange
  pub there : slice_get old.tables place ≡ Some before
  pub answers : AnswersGone (wiped before) result old.ids new.ids before after
  pub set : new.tables ≡ slice_set old.tables place after
  pub book : new.ids.book ≡ old.ids.book

-- the answer to a wipe of a table of this name, and what becomes of the table and of the accepted
-- writes: the removals join them, unless it is refused
abbrev pub JoinsGone : Bytes → Asked (List Fields) → Result ℕ WipeError → Counter → Counter
    → TableChange → TableChange → List Write → List Write → Type 0
JoinsGone name (Ok gone) result ids ids' old new writes writes' =
    MatchResult result
    (λ n. (n ≡ length gone) × IsWiped gone ids ids' old new
    × (writes' ≡ writes ++ removals name gone))
    (λ e. GivesUp (length gone) e ids ids' old new × (writes' ≡ writes))
JoinsGone name (Err why) result ids ids' old new writes writes' =
    IsToldWhy why result ids ids' old new × (writes' ≡ writes)

-- the same of the table at a place of a list
pub record JoinsGoneAt (wiped : TableChange → Asked (List Fields)) (place : ℕ) (name : Bytes)
    (result : Result ℕ WipeError) (old new : Tables) (writes writes' : List Write)
    : Type 0 where
  pub before : TableChange
  pub after : TableChange
  pub there : slice_get old.tables place ≡ Some before
  pub answers : JoinsGone name (wiped before) result old.ids new.ids before after writes writes'
  pub set : new.tables ≡ slice_set old.tables place after
  pub book : new.ids.book ≡ old.ids.book

-- the error is want of memory
abbrev pub is_memory : WipeError → Bool
is_memory Memory = true
is_memory e = false
