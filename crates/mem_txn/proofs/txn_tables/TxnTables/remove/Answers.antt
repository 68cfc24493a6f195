use Rattle.std.proofs.Common.{[]}
use Rattle.mdb_schema.specs.Write.{remove_row}
use Rattle.table_index.specs.Table.{TableChange}
use Rattle.mem_txn.specs.DbTxn.{gives_row}
use Rattle.mem_txn.specs.inner.Views.{tables_view}
use Rattle.mem_txn.proofs.TablesWritten.{table_answers, table_set, table_within}
use Rattle.mem_txn.proofs.txn_tables.TxnTables.remove.Goals as goal

pub remove-requires-clause-within : goal.remove-requires-clause-within
remove-requires-clause-within c =
    table_within (tables_view c.self.inside) c.args.self.now c.self.view_is c.args.place c.requires.within c.index_mut-table.result.now
    c.index_mut-table.ensures.value c.self.invariant

pub invariant_of-self : goal.invariant_of-self
invariant_of-self c =
    table_set (tables_view c.self.inside) c.args.self.now c.self.view_is c.args.place c.requires.within c.index_mut-table.result.now
    c.index_mut-table.ensures.value
    c.remove.new.ids c.remove.new.self c.self.invariant c.remove.ensures.cells

pub returns : goal.returns
returns c =
    table_answers (tables_view c.self.inside) c.args.self.now c.self.view_is c.args.place c.requires.within c.index_mut-table.result.now
    c.index_mut-table.ensures.value
    c.remove.new.ids c.remove.new.self gives_row [] (λ (t : TableChange). remove_row t.schema c.args.row.now t.rows) c.remove.result
    c.remove.ensures.answers c.remove.ensures.cells.book
