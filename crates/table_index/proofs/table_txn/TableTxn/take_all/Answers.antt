use Rattle.std.proofs.Common.{◌∙◌, ◌*◌, ◌^◌, Ok, Err, ap, rules}
use Rattle.std.proofs.lemmas.List.{places}
use Rattle.mdb_schema.specs.Wipe.{wiped_rows}
use Rattle.table_index.specs.Drawn.{HasDrawnCells}
use Rattle.table_index.specs.Table.{TableChange, AnswersTake, rows_asked}
use Rattle.table_index.specs.Written.{Writes, rows_told}
use Rattle.table_index.specs.inner.IndexTrees.{nodes_of, rows_held}
use Rattle.table_index.proofs.Changes.{AreLent, change_drawn, of_change, trees_held, trees_ready}
use Rattle.table_index.proofs.WipeAnswers.{wiped_answer, refused_answer}
use Rattle.table_index.proofs.WrittenRows.{change_wrote}
use Rattle.table_index.proofs.table_txn.TableTxn.take_all.Goals.{After-wipe_rows-wiped}
use Rattle.table_index.proofs.table_txn.TableTxn.take_all.Goals as goal

pub wipe_rows-wiped-requires-clause-ready : goal.wipe_rows-wiped-requires-clause-ready
wipe_rows-wiped-requires-clause-ready c =
    trees_ready c.self.inside c.args.self.now c.self.view_is c.deref_mut.result.now c.deref_mut.ensures.value c.self.invariant
    c.args.front.now c.args.ids.now c.requires.ready

pub wipe_rows-wiped-requires-clause-held : goal.wipe_rows-wiped-requires-clause-held
wipe_rows-wiped-requires-clause-held c =
    trees_held c.self.inside c.args.self.now c.self.view_is c.deref_mut.result.now c.deref_mut.ensures.value c.self.invariant
    c.requires.ready.sound

-- ---- a write that is made

lent : (c : After-wipe_rows-wiped) → AreLent c.self.inside c.args.self.now c.deref_mut.result.now c.wipe_rows-wiped.new.txns
lent c = record { view = c.self.view_is; reads = c.deref_mut.ensures.value; count = search (rules, places) }

pub returns-in-Ok-clause-answers : goal.returns-in-Ok-clause-answers
returns-in-Ok-clause-answers c =
    let t = c.self.inside.def in
    let read = c.deref_mut.result.now in
    let new = c.wipe_rows-wiped.new.txns in
    let told = wiped_rows t (rows_held t (nodes_of read)) c.args.query.now in
    let w = c.in-Ok.ensures.answers in
    of_change (lent (goal.at.returns-in-Ok-clause-answers c).After-wipe_rows-wiped)
    (λ (old now : TableChange). AnswersTake c.args.ids.now.next (wiped_rows old.schema old.rows c.args.query.now) (Ok c.in-Ok.gone) old now)
    c.self.inside.spoiled
    (wiped_answer c.args.ids.now.next t told read new c.in-Ok.ensures.drawn.start w.0 c.in-Ok.gone c.self.inside.spoiled w.1 w.2 w.3)

pub returns-in-Ok-clause-drawn : goal.returns-in-Ok-clause-drawn
returns-in-Ok-clause-drawn c =
    let t = c.self.inside.def in
    let read = c.deref_mut.result.now in
    let new = c.wipe_rows-wiped.new.txns in
    let told = wiped_rows t (rows_held t (nodes_of read)) c.args.query.now in
    of_change (lent (goal.at.returns-in-Ok-clause-drawn c).After-wipe_rows-wiped)
    (λ (old now : TableChange). HasDrawnCells c.args.front.now (2 ^ 26 * rows_asked (wiped_rows old.schema old.rows c.args.query.now))
    c.args.ids.now c.wipe_rows-wiped.new.ids old now) c.self.inside.spoiled
    (change_drawn c.args.front.now (2 ^ 26 * rows_asked told) c.args.ids.now c.wipe_rows-wiped.new.ids t read new c.self.inside.spoiled
    c.self.inside.spoiled c.wipe_rows-wiped.ensures.drawn)

pub returns-in-Ok-clause-written : goal.returns-in-Ok-clause-written
returns-in-Ok-clause-written c =
    let t = c.self.inside.def in
    let read = c.deref_mut.result.now in
    let new = c.wipe_rows-wiped.new.txns in
    let told = wiped_rows t (rows_held t (nodes_of read)) c.args.query.now in
    of_change (lent (goal.at.returns-in-Ok-clause-written c).After-wipe_rows-wiped)
    (λ (old now : TableChange). Writes (rows_told (wiped_rows old.schema old.rows c.args.query.now)) old now) c.self.inside.spoiled
    (change_wrote t (rows_told told) read new c.in-Ok.ensures.written)

-- ---- a write that isn't

pub returns-in-Err-clause-answers : goal.returns-in-Err-clause-answers
returns-in-Err-clause-answers c =
    let t = c.self.inside.def in
    let read = c.deref_mut.result.now in
    let new = c.wipe_rows-wiped.new.txns in
    let told = wiped_rows t (rows_held t (nodes_of read)) c.args.query.now in
    let sound = ap (λ (x : TableChange). x.spoiled) c.self.view_is ∙ c.requires.ready.sound in
    of_change (lent (goal.at.returns-in-Err-clause-answers c).After-wipe_rows-wiped)
    (λ (old now : TableChange). AnswersTake c.args.ids.now.next (wiped_rows old.schema old.rows c.args.query.now) (Err c.in-Err.error) old
    now) c.wants_memory-self-inside.result
    (refused_answer c.args.ids.now.next t told read new c.in-Err.ensures.drawn.start c.in-Err.error c.self.inside.spoiled
    c.wants_memory-self-inside.result sound c.wants_memory-self-inside.ensures c.in-Err.ensures.answers)

pub returns-in-Err-clause-drawn : goal.returns-in-Err-clause-drawn
returns-in-Err-clause-drawn c =
    let t = c.self.inside.def in
    let read = c.deref_mut.result.now in
    let new = c.wipe_rows-wiped.new.txns in
    let told = wiped_rows t (rows_held t (nodes_of read)) c.args.query.now in
    of_change (lent (goal.at.returns-in-Err-clause-drawn c).After-wipe_rows-wiped)
    (λ (old now : TableChange). HasDrawnCells c.args.front.now (2 ^ 26 * rows_asked (wiped_rows old.schema old.rows c.args.query.now))
    c.args.ids.now c.wipe_rows-wiped.new.ids old now) c.wants_memory-self-inside.result
    (change_drawn c.args.front.now (2 ^ 26 * rows_asked told) c.args.ids.now c.wipe_rows-wiped.new.ids t read new c.self.inside.spoiled
    c.wants_memory-self-inside.result c.wipe_rows-wiped.ensures.drawn)
