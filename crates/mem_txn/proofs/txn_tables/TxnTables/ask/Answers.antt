use Rattle.std.proofs.Common.{subst}
use Rattle.table_index.specs.Table.{TableChange}
use Rattle.mem_txn.specs.inner.Views.{tables_view}
use Rattle.mem_txn.specs.inner.VersionTables.{AnswersAskAt, Tables}
use Rattle.mem_txn.proofs.IdsCounted.{none_drawn}
use Rattle.mem_txn.proofs.TablesWritten.{table_set, table_there, table_within}
use Rattle.mem_txn.proofs.txn_tables.TxnTables.ask.Goals as goal

pub invariant_of-self : goal.invariant_of-self
invariant_of-self c =
    let table : TableChange = c.index_mut-table.result.now in
    let within = table_within (tables_view c.self.inside) c.args.self.now c.self.view_is c.args.place c.requires.within
    c.index_mut-table.result.now c.index_mut-table.ensures.value c.self.invariant in
    table_set (tables_view c.self.inside) c.args.self.now c.self.view_is c.args.place c.requires.within c.index_mut-table.result.now
    c.index_mut-table.ensures.value
    c.self.inside.ids c.ask.new.self c.self.invariant (none_drawn c.self.inside.ids table c.ask.new.self c.ask.ensures.unchanged within)

pub returns-clause-answers : goal.returns-clause-answers
returns-clause-answers c =
    subst (λ (o : Tables). AnswersAskAt c.args.query.now c.args.place c.ask.result o.tables) c.self.view_is (record {
      asked = c.index_mut-table.result.now;
      there = table_there (tables_view c.self.inside) c.args.self.now c.self.view_is c.args.place c.requires.within
          c.index_mut-table.result.now c.index_mut-table.ensures.value;
      answers = c.ask.ensures.answers;
    })
