-- The table that a state has under a name.
use Rattle.std.specs.Prelude.{◌≡◌, ℕ, List, Some, slice_get}
use Rattle.mdb_encode.specs.Bytes.{Bytes}
use Rattle.mdb_schema.specs.Schema.{table_place}
use Rattle.table_index.specs.Table.{TableRows}
use Rattle.mem_txn.specs.inner.Values.{ViewWithTrees}
use Rattle.mem_txn.specs.inner.VersionTables.{schemas_of, state_of, trees_of}

-- the tables are the state in its trees, and this one stands at the place of the name
pub record IsTableOf (v : ViewWithTrees) (name : Bytes) (t : TableRows) : Type 0 where
  pub tables : List TableRows
  pub schemas : schemas_of tables ≡ v.view.schema
  pub state : state_of tables ≡ v.view.state
  pub trees : trees_of tables ≡ v.trees
  pub place : ℕ
  pub found : table_place name v.view.schema ≡ Some place
  pub there : slice_get tables place ≡ Some t
