use Rattle.std.proofs.Common.{rules, ◌^◌, ◌∷◌, [], subst}
use Rattle.mdb_schema.specs.Write.{put_row}
use Rattle.table_index.specs.Table.{TableChange}
use Rattle.mem_txn.specs.DbTxn.{gives_replaced}
use Rattle.mem_txn.specs.inner.VersionTables.{AnswersRows}
use Rattle.mem_txn.proofs.IdsCounted.{may_be_written, none_drawn, write_draws}
use Rattle.mem_txn.proofs.RowsAdded.{put_answers}
use Rattle.mem_txn.proofs.TableAnswers.{begins_still, put_begins}
use Rattle.mem_txn.proofs.lazy_table.LazyTable.put.Goals as goal

pub returns-clause-answers : goal.returns-clause-answers
returns-clause-answers c =
    let old : TableChange = c.in_ok-txn.txn in
    let new : TableChange = c.put-told.new.self in
    let row = c.args.row.now in
    let e = c.put-told.ensures in
    subst (λ (t : TableChange). AnswersRows gives_replaced (row ∷ []) (put_row t.schema row t.rows) c.put-told.result c.args.ids.now
    c.put-told.new.ids t new) c.in_ok-txn.ensures.open
    (put_answers c.args.front.now c.args.ids.now c.put-told.new.ids old new e.drawn.drawn e.drawn.later e.drawn.few row c.put-told.result
    e.answers e.refused e.written)

pub returns-clause-cells : goal.returns-clause-cells
returns-clause-cells c =
    let old : TableChange = c.in_ok-txn.txn in
    let new : TableChange = c.put-told.new.self in
    let e = c.put-told.ensures in
    write_draws c.args.front.now (2 ^ 26) c.args.ids.now c.put-told.new.ids c.args.self.now old new c.in_ok-txn.ensures.open
    c.requires.within
    (put_begins c.args.ids.now.next old new (put_row old.schema c.args.row.now old.rows) c.put-told.result e.answers).start e.drawn

pub returns-in_err-txn-clause-cells : goal.returns-in_err-txn-clause-cells
returns-in_err-txn-clause-cells c = none_drawn c.args.ids.now c.args.self.now c.opened.new.self (search rules) c.requires.within

pub put-told-requires : goal.put-told-requires
put-told-requires c = record {
  ready =
      may_be_written c.args.front.now c.args.ids.now c.args.self.now c.in_ok-txn.txn c.in_ok-txn.ensures.open
      c.requires.sound c.requires.book c.requires.within;
}

pub invariant_of-self : goal.invariant_of-self
invariant_of-self c =
    let old : TableChange = c.in_ok-txn.txn in
    let new : TableChange = c.put-told.new.self in
    begins_still c.self.inside c.opened.new.self old new c.self.invariant c.self.view_is c.in_ok-txn.ensures.begun
    (put_begins c.args.ids.now.next old new (put_row old.schema c.args.row.now old.rows) c.put-told.result c.put-told.ensures.answers)
