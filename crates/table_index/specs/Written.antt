-- What the writes of a change wrote in each index, and what they keep there.
use Rattle.std.specs.Prelude.{List, [], ◌∷◌, ◌++◌, false, Contains, ⊤, Option, Some, None, Ok, Err}
use Rattle.mdb_datum.specs.Row.{Fields}
use Rattle.mdb_encode.specs.Bytes.{Bytes}
use Rattle.mdb_schema.specs.Answer.{Asked}
use Rattle.mdb_schema.specs.Schema.{IndexSchema, TableSchema}
use Rattle.mdb_schema.specs.State.{full_keys, id_key, row_at}
use Rattle.radix_node.specs.Cells.{CellTree}
use Rattle.radix_node.specs.Paths.{Has}
use Rattle.radix_txn.specs.Kept.{AreWritten, Kept}
use Rattle.table_index.specs.Table.{TableChange, TableRows}

-- a key is a full key of one of these rows in an index
abbrev pub IsKeyOf : TableSchema → List Fields → IndexSchema → Bytes → Type 0
IsKeyOf t rows i key = (row : Fields) × Contains rows row × Contains (full_keys t i row) key

-- writes of keys of a kind alone lie between two trees
pub record WroteOnly (kind : Bytes → Type 0) (old new : CellTree) : Type 0 where
  pub keys : List Bytes
  pub each : (key : Bytes) → Has key keys → kind key
  pub written : AreWritten old new keys

-- the same in each index
abbrev pub EachWrote : (IndexSchema → Bytes → Type 0) → List IndexSchema → List CellTree → List CellTree
    → Type 0
EachWrote kind [] [] [] = ⊤
EachWrote kind (i ∷ is) (old ∷ start) (new ∷ trees) =
    WroteOnly (kind i) old new × EachWrote kind is start trees
EachWrote kind is start trees = ⊥

-- since its beginning a change wrote full keys of these rows alone
abbrev pub HasWritten : List Fields → TableChange → Type 0
HasWritten rows change =
    EachWrote (IsKeyOf change.schema rows) change.schema.indexes change.start change.trees

-- the change that begins with a table
abbrev pub new_change : TableRows → TableChange
new_change t = record {
  schema = t.schema;
  rows = t.rows;
  start = t.trees;
  trees = t.trees;
  spoiled = false;
}

-- between two moments of a change full keys of these rows alone were written
abbrev pub Writes : List Fields → TableChange → TableChange → Type 0
Writes more old new = (rows : List Fields) → HasWritten rows old → HasWritten (more ++ rows) new

-- all is kept of a tree that keys of a kind don't touch
pub record KeptBut (kind : Bytes → Type 0) (old new : CellTree) : Type 0 where
  pub keys : List Bytes
  pub each : (key : Bytes) → Has key keys → kind key
  pub kept : Kept old new keys

-- the same of the tree of each index
abbrev pub EachKept : (IndexSchema → Bytes → Type 0) → List IndexSchema → List CellTree → List CellTree
    → Type 0
EachKept kind [] [] [] = ⊤
EachKept kind (i ∷ is) (old ∷ start) (new ∷ trees) =
    KeptBut (kind i) old new × EachKept kind is start trees
EachKept kind is start trees = ⊥

-- whatever rows a change wrote full keys of, nothing else is touched in its last trees
abbrev pub KeepsOthers : TableChange → List CellTree → Type 0
KeepsOthers change trees =
    (rows : List Fields) → HasWritten rows change
    → EachKept (IsKeyOf change.schema rows) change.schema.indexes change.start trees

-- the row, if there is one
abbrev pub row_there : Option Fields → List Fields
row_there None = []
row_there (Some row) = row ∷ []

-- the rows whose keys a put may write: the row, and the one that has its `id` key before
abbrev pub rows_put : TableSchema → Fields → List Fields → List Fields
rows_put t row rows = row ∷ row_there (row_at t (id_key t row) rows)

-- the rows of an answer that isn't refused
abbrev pub rows_told : Asked (List Fields) → List Fields
rows_told (Ok rows) = rows
rows_told (Err why) = []
