-- What one commit makes of the value before it.
use Rattle.std.specs.Prelude.{◌≡◌, ◌≤◌, ℕ, suc, List, [], ◌∷◌, All, None, Some, length, take, slice_get, ⊤, true}
use Rattle.mdb_datum.specs.Row.{Fields}
use Rattle.mdb_encode.specs.Bytes.{Bytes}
use Rattle.mdb_schema.specs.Schema.{DbSchema}
use Rattle.mdb_schema.specs.State.{State}
use Rattle.mdb_schema.specs.Touched.{rows_written}
use Rattle.table_index.specs.Table.{TableRows}
use Rattle.table_index.specs.Watched.{HoldsRows, QuestionsHold}
use Rattle.table_index.specs.Written.{EachKept, IsKeyOf}
use Rattle.watch_word.specs.Logs.{Cell, Log, has_fired}
use Rattle.mem_txn.specs.CellHistory.{FiresIn, Forest}
use Rattle.mem_txn.specs.Database.{view_after}
use Rattle.mem_txn.specs.inner.VersionTables.{AreOpened, AreAllWithin}
use Rattle.mem_txn.specs.inner.Values.{IsBookOf, Version, Versions, history_in, schema_in}

-- a table becomes another by writes of full keys of these rows
pub record IsTableStep (first : ℕ) (rows : List Fields) (old new : TableRows) : Type 0 where
  pub questions : QuestionsHold old new
  pub kept : EachKept (IsKeyOf old.schema rows) old.schema.indexes old.trees new.trees
  pub opened : AreOpened first old.trees new.trees

-- the same of each table
abbrev pub AreTableSteps : ℕ → (Bytes → List Fields) → List TableRows → List TableRows → Type 0
AreTableSteps first rows [] [] = ⊤
AreTableSteps first rows (old ∷ olds) (new ∷ news) =
    IsTableStep first (rows old.schema.name) old new × AreTableSteps first rows olds news
AreTableSteps first rows olds news = ⊥

-- the tables of a schema with these rows, in these trees
abbrev pub tables_with : DbSchema → State → Forest → List TableRows
tables_with (t ∷ schema) (rows ∷ s) (trees ∷ forest) =
    record { schema = t; rows = rows; trees = trees } ∷ tables_with schema s forest
tables_with schema s forest = []

abbrev pub tables_of : Version → List TableRows
tables_of v = tables_with v.view.schema v.view.state v.trees

-- a value is what its writes make of the one before it
pub record IsStep (old new : Version) : Type 0 where
  pub tables : AreTableSteps old.ids.next
      (rows_written old.view.schema old.view.state new.writes) (tables_of old) (tables_of new)
  pub book : new.ids.book ≡ old.ids.book
  pub later : old.ids.next ≤ new.ids.next
  -- each table of the schema had its trees, and there were no others; so it is now
  pub planted : let v = old.view in length old.trees ≡ length v.schema
  pub planted_now : let v = new.view in length new.trees ≡ length v.schema

-- each value of a list is the state after the commits before it, in trees that hold its rows, and
-- what its writes make of the value before it
pub record AreSteps (h : Versions) : Type 0 where
  pub views : (n : ℕ) (e : ℕ × Version) → slice_get h n ≡ Some e
      → e.1.view ≡ view_after (schema_in h) (take n (history_in h))
  pub within : (n : ℕ) (e : ℕ × Version) → slice_get h n ≡ Some e → AreAllWithin e.1.ids e.1.trees
  pub held : (n : ℕ) (e : ℕ × Version) → slice_get h n ≡ Some e → All HoldsRows (tables_of e.1)
  pub books : (n : ℕ) (e : ℕ × Version) → slice_get h n ≡ Some e → IsBookOf h e.1.ids.book
  pub steps : (n : ℕ) (e f : ℕ × Version) → slice_get h n ≡ Some e → slice_get h (suc n) ≡ Some f
      → IsStep e.1 f.1

-- the last commit of a list fires what left the trees, and the log is of the book of the cells
pub record HasLastFirings (h : Versions) (log : Log) : Type 0 where
  pub of : IsBookOf h log.book
  pub fired : (n : ℕ) (e f : ℕ × Version) → slice_get h n ≡ Some e → slice_get h (suc n) ≡ Some f
      → slice_get h (suc (suc n)) ≡ None → (c : Cell) → FiresIn e.1.trees f.1.trees c
      → has_fired c log ≡ true
