-- Tables without rows, as a database begins.
use Rattle.std.specs.Prelude.{◌≡◌, List, All, []}
use Rattle.mdb_schema.specs.Schema.{TableSchema, DbSchema}
use Rattle.mdb_schema.specs.State.{empty_state}
use Rattle.radix_node.specs.Ids.{Counter}
use Rattle.table_index.specs.Drawn.{HasNewCells}
use Rattle.table_index.specs.Table.{TableRows}
use Rattle.table_index.specs.Watched.{HoldsRows}
use Rattle.watch_word.specs.Logs.{Log}
use Rattle.mem_txn.specs.inner.VersionTables.{AreAllWithin, schemas_of, state_of, trees_of}

-- a table without rows, in trees whose cells were drawn in between
pub record IsEmptyOf (def : TableSchema) (log : Log) (before after : Counter) (t : TableRows)
    : Type 0 where
  pub schema : t.schema ≡ def
  pub rows : t.rows ≡ []
  pub cells : HasNewCells log before after t.trees
  pub held : HoldsRows t

-- one for each of a schema
pub record AreEmpty (schema : DbSchema) (ids : Counter) (tables : List TableRows) : Type 0 where
  pub schemas : schemas_of tables ≡ schema
  pub state : state_of tables ≡ empty_state schema
  pub within : AreAllWithin ids (trees_of tables)
  pub held : All HoldsRows tables
