use Rattle.std.proofs.Common.{◌∷◌, []}
use Rattle.mdb_schema.specs.Write.{put_row}
use Rattle.table_index.specs.Table.{TableChange}
use Rattle.mem_txn.specs.DbTxn.{gives_replaced}
use Rattle.mem_txn.specs.inner.Views.{tables_view}
use Rattle.mem_txn.proofs.TablesWritten.{table_answers, table_set, table_within}
use Rattle.mem_txn.proofs.txn_tables.TxnTables.put.Goals as goal

pub put-requires-clause-within : goal.put-requires-clause-within
put-requires-clause-within c =
    table_within (tables_view c.self.inside) c.args.self.now c.self.view_is c.args.place c.requires.within c.index_mut-table.result.now
    c.index_mut-table.ensures.value c.self.invariant

pub invariant_of-self : goal.invariant_of-self
invariant_of-self c =
    table_set (tables_view c.self.inside) c.args.self.now c.self.view_is c.args.place c.requires.within c.index_mut-table.result.now
    c.index_mut-table.ensures.value
    c.put.new.ids c.put.new.self c.self.invariant c.put.ensures.cells

pub returns : goal.returns
returns c =
    table_answers (tables_view c.self.inside) c.args.self.now c.self.view_is c.args.place c.requires.within c.index_mut-table.result.now
    c.index_mut-table.ensures.value
    c.put.new.ids c.put.new.self gives_replaced (c.args.row.now ∷ []) (λ (t : TableChange). put_row t.schema c.args.row.now t.rows)
    c.put.result c.put.ensures.answers c.put.ensures.cells.book
