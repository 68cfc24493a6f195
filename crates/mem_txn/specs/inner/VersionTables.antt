-- Lists of tables, each at its place in the schema.
use Rattle.std.specs.Prelude.{◌≡◌, ◌≤◌, ◌⊎◌, ◌+◌, ◌++◌, ◌^◌, ℕ, Bool, true, false, List, [], ◌∷◌, map, option_to_list, slice_get, slice_set, Some, All, ⊤}
use Rattle.std.specs.Prelude.{Option, Result, Ok, Err, MatchResult}
use Rattle.mdb_datum.specs.Row.{Fields}
use Rattle.mdb_schema.specs.Answer.{ask_rows}
use Rattle.mdb_schema.specs.Query.{Query}
use Rattle.mdb_schema.specs.ErrorsTold.{AnswersAsk, write_error}
use Rattle.mdb_schema.specs.Schema.{DbSchema}
use Rattle.mdb_schema.specs.State.{State}
use Rattle.mdb_encode.specs.Bytes.{Bytes}
use Rattle.mdb_schema.specs.Touched.{row_put}
use Rattle.mdb_schema.specs.Write.{Changed, Tested, Write}
use Rattle.mdb_schema.specs.declared.answer.Answer.{Answer}
use Rattle.mdb_schema.specs.declared.ask_error.AskError.{AskError}
use Rattle.mdb_schema.specs.declared.write_error.WriteError.{WriteError}
use Rattle.mdb_schema.specs.declared.write_error.WriteError.TheVariants.{IdsSpent, Memory}
use Rattle.radix_node.specs.Cells.{AreApart, CellTree}
use Rattle.radix_node.specs.Ids.{Counter}
use Rattle.radix_txn.specs.Notice.{IsOpened}
use Rattle.table_index.specs.Table.{AreAllBelow, AreAllOf, AreSeparate, IsChanged, IsSpent, TableRows, TableChange}
use Rattle.table_index.specs.Written.{HasWritten, Writes}
use Rattle.watch_word.specs.Logs.{Cell}
use Rattle.mem_txn.specs.CellHistory.{Forest, IsCellIn}

abbrev pub schemas_of : List TableRows → DbSchema
schemas_of ts = map (λ (t : TableRows). t.schema) ts

abbrev pub state_of : List TableRows → State
state_of ts = map (λ (t : TableRows). t.rows) ts

abbrev pub trees_of : List TableRows → List (List CellTree)
trees_of ts = map (λ (t : TableRows). t.trees) ts

-- a table that is being changed, as it stands
abbrev pub standing : TableChange → TableRows
standing t = record { schema = t.schema; rows = t.rows; trees = t.trees }

-- a table that nobody has written to
abbrev pub unwritten : TableRows → TableChange
unwritten t =
    record { schema = t.schema; rows = t.rows; start = t.trees; trees = t.trees; spoiled = false }

abbrev pub IsSound : TableChange → Type 0
IsSound t = t.spoiled ≡ false

-- the tables are a state, and each may be written
pub record StandFor (tables : List TableChange) (schema : DbSchema) (s : State) : Type 0 where
  pub schemas : schemas_of (map standing tables) ≡ schema
  pub rows : state_of (map standing tables) ≡ s
  pub sound : All IsSound tables

-- ---- ids of cells

-- all cells of the trees are of the counter's book and have ids that were drawn
pub record AreWithin (ids : Counter) (trees : List CellTree) : Type 0 where
  pub below : AreAllBelow ids.next trees
  pub of : AreAllOf ids.book trees

-- no two trees share an id: cells of one id are in the tree of one index of one table
abbrev pub AreAllSeparate : Forest → Type 0
AreAllSeparate forest =
    (c d : Cell) (table table' index index' : ℕ) → IsCellIn forest table index c
    → IsCellIn forest table' index' d → c.id ≡ d.id → (table ≡ table') × (index ≡ index')

-- all cells of the trees of all tables have ids that were drawn, and no two cells have one
pub record AreAllWithin (ids : Counter) (forest : Forest) : Type 0 where
  pub within : All (AreWithin ids) forest
  pub separate : AreAllSeparate forest
  pub apart : All (All AreApart) forest

-- the cells of a table that is being changed have ids that were drawn, before the change and now
pub record IsWithin (ids : Counter) (t : TableChange) : Type 0 where
  pub start : AreWithin ids t.start
  pub trees : AreWithin ids t.trees

-- the tables of a transaction so, of whose present trees no two share an id
pub record AreChangesWithin (ids : Counter) (tables : List TableChange) : Type 0 where
  pub within : All (IsWithin ids) tables
  pub separate : AreAllSeparate (trees_of (map standing tables))

-- in each tree of the one list a cell is one of the tree at its place in the other, or its id is at
-- least this
abbrev pub AreOpened : ℕ → List CellTree → List CellTree → Type 0
AreOpened first [] [] = ⊤
AreOpened first (old ∷ olds) (new ∷ news) = IsOpened first old new × AreOpened first olds news
AreOpened first olds news = ⊥

-- what a write draws of the ids and leaves of a table's cells, whatever it is answered
pub record Draws (ids ids' : Counter) (old new : TableChange) : Type 0 where
  pub within : IsWithin ids' new
  pub opened : AreOpened ids.next old.trees new.trees
  pub separate : AreSeparate old.trees → AreSeparate new.trees
  pub book : ids'.book ≡ ids.book
  pub later : ids.next ≤ ids'.next

-- since its beginning a change opened cells from this id on, and wrote full keys of these rows
-- alone
pub record HasChanged (first : ℕ) (rows : List Fields) (t : TableChange) : Type 0 where
  pub opened : AreOpened first t.start t.trees
  pub written : HasWritten rows t

-- the tables of a transaction began with these trees, and have changed so since: which rows were
-- written goes by the table's name
pub record AreChangesOf (first : ℕ) (start : Forest) (rows : Bytes → List Fields)
    (tables : List TableChange) : Type 0 where
  pub starts : map (λ (t : TableChange). t.start) tables ≡ start
  pub changed : All (λ (t : TableChange). HasChanged first (rows t.schema.name) t) tables

-- a write of these rows keeps all that is said of the cells that were opened since any id, and adds
-- its rows to those that were written
pub record Adds (rows : List Fields) (ids : Counter) (old new : TableChange) : Type 0 where
  pub opened : (first : ℕ) → first ≤ ids.next → AreOpened first old.start old.trees
      → AreOpened first new.start new.trees
  pub written : Writes rows old new

-- the tables of a transaction, and the ids that come next
pub record Tables : Type 0 where
  pub tables : List TableChange
  pub ids : Counter

-- ---- writes

-- what a write that puts in these rows leaves of a table, and which ids
pub record IsWritten (put : List Fields) (c : Changed) (ids ids' : Counter) (old new : TableChange)
    : Type 0 where
  pub changed : IsChanged c.0 old new
  pub few : ids'.next ≤ ids.next + 2 ^ 26
  pub later : ids.next ≤ ids'.next
  pub adds : Adds (put ++ option_to_list c.1) ids old new

-- the answer of a table to a write that puts in these rows, and leaves those or is refused so, with
-- the ids before and after it; after want of memory its rows mean nothing
abbrev pub AnswersRows : {A : Type 0} → (Option Fields → A → Type 0) → List Fields → Tested Changed
    → Result A WriteError → Counter → Counter → TableChange → TableChange → Type 0
AnswersRows gives put (Ok c) result ids ids' old new =
    MatchResult result
    (λ x. gives c.1 x × IsWritten put c ids ids' old new)
    (λ e. (IsSpent ids.next 1 IdsSpent e old new × (ids' ≡ ids)) ⊎ (e ≡ Memory))
AnswersRows gives put (Err why) result ids ids' old new =
    MatchResult result (λ x. ⊥)
    (λ e. ((e ≡ write_error why) × (new ≡ old) × (ids' ≡ ids)) ⊎ (e ≡ Memory))

-- the same of the table at a place of a list
pub record AnswersAt {A : Type 0} (gives : Option Fields → A → Type 0) (put : List Fields)
    (change : TableChange → Tested Changed) (place : ℕ) (result : Result A WriteError)
    (old new : Tables) : Type 0 where
  pub before : TableChange
  pub after : TableChange
  pub there : slice_get old.tables place ≡ Some before
  pub answers : AnswersRows gives put (change before) result old.ids new.ids before after
  pub set : new.tables ≡ slice_set old.tables place after
  pub book : new.ids.book ≡ old.ids.book

-- the answer to a question of the table at a place
pub record AnswersAskAt (q : Query) (place : ℕ) (result : Result Answer AskError)
    (tables : List TableChange) : Type 0 where
  pub asked : TableChange
  pub there : slice_get tables place ≡ Some asked
  pub answers : AnswersAsk (ask_rows asked.schema asked.rows q) result

-- a write to the table at a place, and to the list of the accepted writes, which it joins unless it
-- is refused
abbrev pub Joins : {A : Type 0} → (Option Fields → A → Type 0) → (TableChange → Tested Changed)
    → ℕ → Write → Result A WriteError → Tables → Tables → List Write → List Write → Type 0
Joins gives change place w result tables tables' writes writes' =
    MatchResult result
    (λ x. AnswersAt gives (row_put w) change place (Ok x) tables tables' × (writes' ≡ writes ++ w ∷ []))
    (λ e. ((e ≡ Memory) ⊎ AnswersAt gives (row_put w) change place (Err e) tables tables') × (writes' ≡ writes))

-- the error is want of memory
abbrev pub is_memory : WriteError → Bool
is_memory Memory = true
is_memory e = false
