use Rattle.std.proofs.Common.{◌≡◌, ◌*◌, ◌^◌, subst, rules}
use Rattle.table_index.specs.Table.{TableChange, rows_asked}
use Rattle.mem_txn.specs.inner.Wipes.{AnswersGone, wiped_by}
use Rattle.mem_txn.proofs.IdsCounted.{may_be_written, none_drawn, write_draws}
use Rattle.mem_txn.proofs.RowsAdded.{wipe_answers}
use Rattle.mem_txn.proofs.TableAnswers.{taken_begins}
use Rattle.mem_txn.proofs.lazy_table.LazyTable.wipe.Goals as goal

pub returns-clause-answers : goal.returns-clause-answers
returns-clause-answers c =
    let old : TableChange = c.match-take.txn in
    let new : TableChange = c.take-told.new.table in
    let e = c.take-told.ensures in
    let is : old ≡ c.args.self.now = search rules in
    subst (λ (t : TableChange). AnswersGone (wiped_by c.args.wipe t.schema t.rows c.args.query.now) c.take-told.result c.args.ids.now
    c.take-told.new.ids t new) is
    (wipe_answers c.args.front.now c.args.ids.now c.take-told.new.ids old new e.drawn.drawn e.drawn.later
    (wiped_by c.args.wipe old.schema old.rows c.args.query.now) c.take-told.result e.answers e.drawn.few e.refused e.written)

pub returns-clause-cells : goal.returns-clause-cells
returns-clause-cells c =
    let old : TableChange = c.match-take.txn in
    let new : TableChange = c.take-told.new.table in
    let e = c.take-told.ensures in
    let is : old ≡ c.args.self.now = search rules in
    let told = wiped_by c.args.wipe old.schema old.rows c.args.query.now in
    write_draws c.args.front.now (2 ^ 26 * rows_asked told) c.args.ids.now c.take-told.new.ids c.args.self.now old new is c.requires.within
    (taken_begins c.args.ids.now.next old new told c.take-told.result e.answers).start e.drawn

pub take-told-requires : goal.take-told-requires
take-told-requires c =
    let old : TableChange = c.match-take.txn in
    let is : old ≡ c.args.self.now = search rules in
    record {
      ready = may_be_written c.args.front.now c.args.ids.now c.args.self.now old is c.requires.sound c.requires.book
          c.requires.within;
    }

pub returns-in_err-txn-in-None-clause-cells : goal.returns-in_err-txn-in-None-clause-cells
returns-in_err-txn-in-None-clause-cells c = none_drawn c.args.ids.now c.args.self.now _ (search rules) c.requires.within
