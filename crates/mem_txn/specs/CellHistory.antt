-- A history with its trees, and the cells that questions watch in them.
use Rattle.std.specs.Prelude.{◌≡◌, ◌≤◌, ◌<◌, ℕ, suc, List, [], if◌then◌else◌, true, length, slice_get}
use Rattle.std.specs.Prelude.{Option, Some, None, Ok, Err}
use Rattle.mdb_encode.specs.Bytes.{Bytes}
use Rattle.mdb_schema.specs.Answer.{Asked, Lookup, lookup_of}
use Rattle.mdb_schema.specs.Guarded.{IsGuarded}
use Rattle.mdb_schema.specs.History.{Commit, History, state_at}
use Rattle.mdb_schema.specs.Query.{Query}
use Rattle.mdb_schema.specs.Schema.{DbSchema, IndexSchema, TableSchema}
use Rattle.mdb_schema.specs.State.{State, Table, table_at}
use Rattle.mdb_schema.specs.Touched.{Touch}
use Rattle.mdb_schema.specs.Watchable.{IsTouched}
use Rattle.radix_node.specs.Cells.{CellLeaf, CellTree, cells_of, leaves_of}
use Rattle.radix_node.specs.Paths.{Has}
use Rattle.table_index.specs.Table.{IsCellAt, TableRows}
use Rattle.table_index.specs.Watched.{FiresAt, cell_of, is_watchable, looks_up}
use Rattle.watch_word.specs.Logs.{Cell, Log, has_fired}

-- the trees of the indexes of each table, by place
abbrev pub Forest : Type 0
Forest = List (List CellTree)

-- the commits of a database, and its trees at the opening and after each of them
pub record CellHistory : Type 0 where
  pub schema : DbSchema
  pub commits : History
  pub trees : List Forest

abbrev pub forest_or_none : Option Forest → Forest
forest_or_none None = []
forest_or_none (Some forest) = forest

-- a cell is in the tree of an index of a table
pub record IsCellIn (forest : Forest) (table index : ℕ) (c : Cell) : Type 0 where
  pub trees : List CellTree
  pub there : slice_get forest table ≡ Some trees
  pub at : IsCellAt trees index c

-- the trees after commit n
abbrev pub trees_after : CellHistory → ℕ → Forest
trees_after J n = forest_or_none (slice_get J.trees n)

abbrev pub state_after : CellHistory → ℕ → State
state_after J n = state_at J.schema J.commits n

-- ---- the cell of a question

-- a table with its trees
abbrev pub with_trees : Table → Option (List CellTree) → Option TableRows
with_trees t None = None
with_trees t (Some trees) = Some (record { schema = t.schema; rows = t.rows; trees = trees })

abbrev pub planted : Forest → Option Table → Option TableRows
planted forest None = None
planted forest (Some t) = with_trees t (slice_get forest t.place)

-- the table of a name in a state and its trees
abbrev pub table_in : DbSchema → State → Forest → Bytes → Option TableRows
table_in schema s forest name = planted forest (table_at schema s name)

-- the cell of a question that is looked up so
abbrev pub looked_up : List CellTree → Query → Asked Lookup → Option Cell
looked_up trees q (Err why) = None
looked_up trees q (Ok at) = cell_of trees at.place (looks_up at.index q) at.key

abbrev pub asked_in : Query → Option TableRows → Option Cell
asked_in q None = None
asked_in q (Some t) = looked_up t.trees q (lookup_of t.schema q)

-- the cell of a question in a state and its trees; none of one that is refused, or isn't watched
abbrev pub question_cell : DbSchema → State → Forest → Query → Option Cell
question_cell schema s forest q =
    if is_watchable q.ask then asked_in q (table_in schema s forest q.table) else None

-- the cell of a question after commit n
abbrev pub cell_at : CellHistory → Query → ℕ → Option Cell
cell_at J q n = question_cell J.schema (state_after J n) (trees_after J n) q

-- ---- firings

-- a cell is in the tree of an index of the one forest, and not in the tree at its place in the
-- other
pub record FiresIn (old new : Forest) (c : Cell) : Type 0 where
  pub table : ℕ
  pub index : ℕ
  pub before : List CellTree
  pub after : List CellTree
  pub was : slice_get old table ≡ Some before
  pub now : slice_get new table ≡ Some after
  pub fires : FiresAt index c before after

-- commit n + 1 fires a cell: it is gone from the tree of an index
abbrev pub IsFiredBy : CellHistory → ℕ → Cell → Type 0
IsFiredBy J n c = FiresIn (trees_after J n) (trees_after J (suc n)) c

-- none of the commits v + 1 to n fires the cell
abbrev pub IsUnfired : CellHistory → Cell → ℕ → ℕ → Type 0
IsUnfired J c v n = (j : ℕ) → v ≤ j → j < n → IsFiredBy J j c → ⊥

-- a log has all that the commits 1 to n fire
abbrev pub HasFirings : CellHistory → ℕ → Log → Type 0
HasFirings J n log = (j : ℕ) → j < n → (c : Cell) → IsFiredBy J j c → has_fired c log ≡ true

-- ---- what holds of every history with its trees

-- a question's cell that no later commit fires is its cell still, and its answer is unchanged
abbrev pub WatchesHold : CellHistory → Type 0
WatchesHold J =
    (q : Query) (v n : ℕ) (c : Cell) → v ≤ n → n ≤ length J.commits → cell_at J q v ≡ Some c
    → IsUnfired J c v n → (cell_at J q n ≡ Some c) × IsGuarded J.schema J.commits q v n

-- Where a question's cell has moved, one of the commits since has touched a full key of its index,
-- and that entry's own where the question looks up one and had found it.
abbrev pub MovesAreTouches : CellHistory → Type 0
MovesAreTouches J =
    (q : Query) (v n : ℕ) (c : Cell) → v ≤ n → n ≤ length J.commits → cell_at J q v ≡ Some c
    → (cell_at J q n ≡ Some c → ⊥) → IsTouched J.schema J.commits q v n

-- what a tree keeps where keys of a kind were touched, and no others: all its cells, if none was,
-- and the leaf of each other key
pub record KeepsUntouched (kind : Bytes → Type 0) (old new : CellTree) : Type 0 where
  pub cells : ((key : Bytes) → kind key → ⊥) → cells_of new ≡ cells_of old
  pub leaves : (l : CellLeaf) → Has l (leaves_of old) → (kind l.pair.0 → ⊥) → Has l (leaves_of new)

-- each commit keeps what it doesn't touch, in each index of each table
abbrev pub KeepUntouched : CellHistory → Type 0
KeepUntouched J =
    (n : ℕ) (commit : Commit) → slice_get J.commits n ≡ Some commit
    → (table : ℕ) (t : TableSchema) → slice_get J.schema table ≡ Some t
    → (before after : List CellTree) → slice_get (trees_after J n) table ≡ Some before
    → slice_get (trees_after J (suc n)) table ≡ Some after
    → (index : ℕ) (i : IndexSchema) → slice_get t.indexes index ≡ Some i
    → (old new : CellTree) → slice_get before index ≡ Some old → slice_get after index ≡ Some new
    → KeepsUntouched (Touch J.schema (state_after J n) commit.writes t i) old new

-- a cell that left a tree never comes back
abbrev pub StayAway : CellHistory → Type 0
StayAway J =
    (m n : ℕ) → m < n → n ≤ length J.commits → (c : Cell) (table index : ℕ)
    → (before after later : List CellTree) → slice_get (trees_after J m) table ≡ Some before
    → slice_get (trees_after J (suc m)) table ≡ Some after
    → slice_get (trees_after J n) table ≡ Some later
    → FiresAt index c before after
    → (tree : CellTree) → slice_get later index ≡ Some tree → Has c (cells_of tree) → ⊥

-- Equal ids are equal cells in all trees of the history, that of an index of a table after one
-- commit and that of another index of another table after another; and a cell is only ever in the
-- trees of one index of one table.
abbrev pub IdsTell : CellHistory → Type 0
IdsTell J =
    (m n : ℕ) (c d : Cell) (table table' index index' : ℕ)
    → IsCellIn (trees_after J m) table index c → IsCellIn (trees_after J n) table' index' d
    → c.id ≡ d.id → (c ≡ d) × (table ≡ table') × (index ≡ index')

-- there are trees at the opening and after each commit
abbrev pub AreComplete : CellHistory → Type 0
AreComplete J = length J.trees ≡ suc (length J.commits)
