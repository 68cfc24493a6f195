-- What the trees of a table's indexes hold.
use Rattle.std.specs.Prelude.{◌≡◌, List, [], All, map, slice_get, Option, Some, None, option_and_then, codes, false}
use Rattle.mdb_datum.specs.Pairs.{rows_of}
use Rattle.mdb_datum.specs.Row.{Fields}
use Rattle.mdb_schema.specs.Entries.{entries}
use Rattle.mdb_schema.specs.Schema.{TableSchema, index_place}
use Rattle.mdb_schema.specs.State.{AreLawfulRows}
use Rattle.radix_node.specs.Cells.{CellTree, plain_of}
use Rattle.radix_node.specs.Nodes.{Plain, pairs_of}
use Rattle.radix_txn.specs.Txn.{Txn}

-- the trees, each at its index's place, hold the entries of these rows
abbrev pub Hold : TableSchema → List Fields → List Plain → Type 0
Hold t rows trees = map pairs_of trees ≡ map (λ i. entries t i rows) t.indexes

abbrev pub rows_in : Option Plain → List Fields
rows_in None = []
rows_in (Some tree) = rows_of (pairs_of tree)

-- the rows that the tree of the index `id` holds
abbrev pub rows_held : TableSchema → List Plain → List Fields
rows_held t trees = rows_in (option_and_then (slice_get trees) (index_place (codes "id") t.indexes))

-- the trees hold the entries of lawful rows
pub record AreTrees (t : TableSchema) (trees : List Plain) : Type 0 where
  pub lawful : AreLawfulRows t (rows_held t trees)
  pub held : Hold t (rows_held t trees) trees

-- the trees without their cells
abbrev pub plains : List CellTree → List Plain
plains trees = map plain_of trees

-- the transaction that begins with a tree
abbrev pub new_tree_txn : CellTree → Txn
new_tree_txn tree = record { start = tree; tree = tree; spoiled = false }

-- the trees that the transactions began with
abbrev pub starts_of : List Txn → List CellTree
starts_of txns = map (λ (x : Txn). x.start) txns

-- the present trees
abbrev pub trees_of : List Txn → List CellTree
trees_of txns = map (λ (x : Txn). x.tree) txns

-- the same without their cells
abbrev pub nodes_of : List Txn → List Plain
nodes_of txns = map (λ (x : Txn). plain_of x.tree) txns

-- each may be written
abbrev pub AreSound : List Txn → Type 0
AreSound txns = All (λ x. x.spoiled ≡ false) txns
