-- What a write transaction ends with.
use Rattle.std.specs.Prelude.{◌≡◌, ◌++◌, ℕ, suc, List, [], ◌∷◌, Option, Some, None, if◌then◌else◌, map, ⊤}
use Rattle.mdb_datum.specs.Row.{Fields}
use Rattle.mdb_schema.specs.Net.{Change, Net, change_at, net}
use Rattle.mdb_schema.specs.Schema.{TableSchema}
use Rattle.table_index.specs.Frozen.{AreFrozen}
use Rattle.table_index.specs.Table.{TableChange, TableRows}
use Rattle.table_index.specs.Watched.{HoldsRows, QuestionsHoldSince}
use Rattle.table_index.specs.Written.{KeepsOthers}
use Rattle.watch_word.specs.Logs.{Cell}
use Rattle.mem_txn.specs.CellHistory.{Forest}
use Rattle.mem_txn.specs.inner.Firing.{AreGone, cells_told}
use Rattle.mem_txn.specs.inner.VersionTables.{trees_of}

-- ---- what has changed in tracked tables

-- what became of the rows of a table, where it is tracked
abbrev pub net_tracked : TableSchema → List Fields → List Fields → List Net
net_tracked t old new = if t.tracked then net t old new else []

-- that of a table which is being changed, from whatever rows the trees held that it began with
abbrev pub AreNetsOf : TableChange → List Net → Type 0
AreNetsOf t nets =
    (rows : List Fields) → HoldsRows (record { schema = t.schema; rows = rows; trees = t.start })
    → nets ≡ net_tracked t.schema rows t.rows

-- the changes of the tables from a place on
abbrev pub AreTold : ℕ → List TableChange → List Change → Type 0
AreTold place [] cs = cs ≡ []
AreTold place (t ∷ ts) cs =
    (nets : List Net) × (rest : List Change) × AreNetsOf t nets × AreTold (suc place) ts rest
    × (cs ≡ map (change_at place) nets ++ rest)

-- ---- what is fired and kept

-- the notices of a change of trees, where the table was opened; else nothing has changed
abbrev pub AreNoticed : Option (List (List Cell)) → TableChange → Type 0
AreNoticed None t = t.trees ≡ t.start
AreNoticed (Some notices) t = AreFrozen notices t.start t.trees

-- a table that a change ends with: what was watched before it holds, and all else is kept
pub record IsMade (t : TableChange) (made : TableRows) : Type 0 where
  pub held : HoldsRows made
  pub questions : QuestionsHoldSince t made
  pub kept : KeepsOthers t made.trees

-- the same, with its notices
pub record EndsWith (t : TableChange) (table : TableRows) (notices : Option (List (List Cell)))
    : Type 0 where
  pub made : IsMade t table
  pub noticed : AreNoticed notices t

-- the tables that changes end with
abbrev pub AreMade : List TableChange → List TableRows → Type 0
AreMade [] [] = ⊤
AreMade (t ∷ ts) (made ∷ mades) = IsMade t made × AreMade ts mades
AreMade ts mades = ⊥

-- the trees that changes began with
abbrev pub starts_of : List TableChange → Forest
starts_of ts = map (λ (t : TableChange). t.start) ts

-- the same, with the notices of all
pub record EndWith (ts : List TableChange) (tables : List TableRows) (gone : List (List (List Cell)))
    : Type 0 where
  pub made : AreMade ts tables
  pub told : AreGone (starts_of ts) (trees_of tables) (cells_told gone)
