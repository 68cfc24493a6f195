use Rattle.std.proofs.Common.{refl, slice_set, subst}
use Rattle.mem_txn.specs.inner.Views.{tables_view}
use Rattle.mem_txn.specs.inner.VersionTables.{Tables}
use Rattle.mem_txn.specs.inner.Wipes.{AnswersGoneAt, wiped_by}
use Rattle.mem_txn.proofs.TablesWritten.{table_set, table_there, table_within}
use Rattle.mem_txn.proofs.txn_tables.TxnTables.wipe.Goals as goal

pub wipe-requires-clause-within : goal.wipe-requires-clause-within
wipe-requires-clause-within c =
    table_within (tables_view c.self.inside) c.args.self.now c.self.view_is c.args.place c.requires.within c.index_mut-table.result.now
    c.index_mut-table.ensures.value c.self.invariant

pub invariant_of-self : goal.invariant_of-self
invariant_of-self c =
    table_set (tables_view c.self.inside) c.args.self.now c.self.view_is c.args.place c.requires.within c.index_mut-table.result.now
    c.index_mut-table.ensures.value
    c.wipe.new.ids c.wipe.new.self c.self.invariant c.wipe.ensures.cells

pub returns : goal.returns
returns c =
    let old : Tables = tables_view c.self.inside in
    let new : Tables = record { tables = slice_set old.tables c.args.place c.wipe.new.self; ids = c.wipe.new.ids } in
    subst (λ (o : Tables). AnswersGoneAt (λ t. wiped_by c.args.wipe t.schema t.rows c.args.query.now) c.args.place c.wipe.result o new)
    c.self.view_is (record {
      before = c.index_mut-table.result.now;
      after = c.wipe.new.self;
      there = table_there (tables_view c.self.inside) c.args.self.now c.self.view_is c.args.place c.requires.within
          c.index_mut-table.result.now c.index_mut-table.ensures.value;
      answers = c.wipe.ensures.answers;
      set = refl;
      book = c.wipe.ensures.cells.book;
    })
