use Rattle.std.proofs.Common.{◌*◌, ◌^◌, List, sym, subst, OnOk}
use Rattle.mdb_datum.specs.Row.{Fields}
use Rattle.mdb_schema.specs.Answer.{Asked}
use Rattle.mdb_schema.specs.Wipe.{wiped_rows}
use Rattle.table_index.specs.Table.{rows_asked}
use Rattle.table_index.specs.inner.Drawn.{HaveDrawn}
use Rattle.table_index.specs.inner.IndexTrees.{nodes_of, rows_held}
use Rattle.table_index.specs.inner.Wipes.{gone_at}
use Rattle.table_index.proofs.DrawnIds.{none_drawn}
use Rattle.table_index.proofs.WipeAnswers.{wiped-listed, wiped_trees, question_refused}
use Rattle.table_index.specs.Written.{rows_told}
use Rattle.table_index.specs.inner.Writes.{WroteRows}
use Rattle.table_index.proofs.wipe.wipe_rows.Goals as goal

pub returns-in-Err-clause-answers : goal.returns-in-Err-clause-answers
returns-in-Err-clause-answers c =
    question_refused c.args.def.now (rows_held c.args.def.now (nodes_of c.args.txns.now)) c.args.query.now c.args.ids.now.next c.in-Err.error c.args.txns.now c.in-Err.ensures.answers

pub returns-in-Err-clause-drawn : goal.returns-in-Err-clause-drawn
returns-in-Err-clause-drawn c =
    none_drawn c.args.front.now (2 ^ 26 * rows_asked (wiped_rows c.args.def.now (rows_held c.args.def.now (nodes_of c.args.txns.now)) c.args.query.now)) c.args.ids.now c.args.txns.now c.requires.ready.within

pub returns-clause-answers : goal.returns-clause-answers
returns-clause-answers c =
    let t = c.args.def.now in
    let rows = rows_held t (nodes_of c.args.txns.now) in
    let told = wiped-listed t rows c.args.query.now c.in-Ok.at c.place.result c.key.result.now c.in-Ok.ensures.answers c.in-Ok.ensures.there c.place.ensures c.key.ensures.bytes in
    wiped_trees c.args.ids.now.next t (wiped_rows t rows c.args.query.now) (gone_at t c.args.txns.now c.place.result c.key.result.now) c.wipe_listed.result c.args.txns.now c.wipe_listed.new.txns told
    c.wipe_listed.ensures.answers

pub returns-clause-drawn : goal.returns-clause-drawn
returns-clause-drawn c =
    let t = c.args.def.now in
    let rows = rows_held t (nodes_of c.args.txns.now) in
    let told = wiped-listed t rows c.args.query.now c.in-Ok.at c.place.result c.key.result.now c.in-Ok.ensures.answers c.in-Ok.ensures.there c.place.ensures c.key.ensures.bytes in
    subst (λ (a : Asked (List Fields)). HaveDrawn c.args.front.now (2 ^ 26 * rows_asked a) c.args.ids.now c.wipe_listed.new.ids c.args.txns.now c.wipe_listed.new.txns) (sym told) c.wipe_listed.ensures.drawn

pub returns-clause-written : goal.returns-clause-written
returns-clause-written c =
    let t = c.args.def.now in
    let rows = rows_held t (nodes_of c.args.txns.now) in
    let told = wiped-listed t rows c.args.query.now c.in-Ok.at c.place.result c.key.result.now c.in-Ok.ensures.answers c.in-Ok.ensures.there c.place.ensures c.key.ensures.bytes in
    subst (λ (a : Asked (List Fields)). OnOk c.wipe_listed.result (WroteRows t (rows_told a) c.args.txns.now c.wipe_listed.new.txns)) (sym told) c.wipe_listed.ensures.written
