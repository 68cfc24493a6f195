use Rattle.std.proofs.Common.{◌^◌, ◌∙◌, Ok, Err, ap, rules}
use Rattle.std.proofs.lemmas.List.{places}
use Rattle.mdb_schema.specs.Write.{put_row}
use Rattle.table_index.specs.Drawn.{HasDrawnCells}
use Rattle.table_index.specs.Table.{TableChange, AnswersPut}
use Rattle.table_index.specs.Written.{Writes, rows_put}
use Rattle.table_index.specs.inner.IndexTrees.{nodes_of, rows_held}
use Rattle.table_index.proofs.Changes.{AreLent, change_drawn, of_change, trees_held, trees_ready}
use Rattle.table_index.proofs.WriteAnswers.{put_answer, put_refused}
use Rattle.table_index.proofs.WrittenRows.{change_wrote}
use Rattle.table_index.proofs.table_txn.TableTxn.put.Goals.{After-write_row-written}
use Rattle.table_index.proofs.table_txn.TableTxn.put.Goals as goal

pub write_row-written-requires-clause-ready : goal.write_row-written-requires-clause-ready
write_row-written-requires-clause-ready c =
    trees_ready c.self.inside c.args.self.now c.self.view_is c.deref_mut.result.now c.deref_mut.ensures.value c.self.invariant
    c.args.front.now c.args.ids.now c.requires.ready

pub write_row-written-requires-clause-held : goal.write_row-written-requires-clause-held
write_row-written-requires-clause-held c =
    trees_held c.self.inside c.args.self.now c.self.view_is c.deref_mut.result.now c.deref_mut.ensures.value c.self.invariant
    c.requires.ready.sound

-- ---- a write that is made

lent : (c : After-write_row-written) → AreLent c.self.inside c.args.self.now c.deref_mut.result.now c.write_row-written.new.txns
lent c = record { view = c.self.view_is; reads = c.deref_mut.ensures.value; count = search (rules, places) }

pub returns-in-Ok-clause-answers : goal.returns-in-Ok-clause-answers
returns-in-Ok-clause-answers c =
    let t = c.self.inside.def in
    let read = c.deref_mut.result.now in
    let new = c.write_row-written.new.txns in
    let told = put_row t c.args.row.now (rows_held t (nodes_of read)) in
    of_change (lent (goal.at.returns-in-Ok-clause-answers c).After-write_row-written)
    (λ (old now : TableChange). AnswersPut c.args.ids.now.next (put_row old.schema c.args.row.now old.rows) (Ok c.in-Ok.replaced) old now)
    c.self.inside.spoiled
    (put_answer c.args.ids.now.next t read new c.self.inside.spoiled told c.in-Ok.ensures.answers.0 c.in-Ok.ensures.drawn.start
    c.in-Ok.replaced c.in-Ok.ensures.answers.1)

pub returns-in-Ok-clause-drawn : goal.returns-in-Ok-clause-drawn
returns-in-Ok-clause-drawn c =
    of_change (lent (goal.at.returns-in-Ok-clause-drawn c).After-write_row-written)
    (λ (old now : TableChange). HasDrawnCells c.args.front.now (2 ^ 26) c.args.ids.now c.write_row-written.new.ids old now)
    c.self.inside.spoiled
    (change_drawn c.args.front.now (2 ^ 26) c.args.ids.now c.write_row-written.new.ids c.self.inside.def c.deref_mut.result.now
    c.write_row-written.new.txns c.self.inside.spoiled c.self.inside.spoiled c.write_row-written.ensures.drawn)

pub returns-in-Ok-clause-written : goal.returns-in-Ok-clause-written
returns-in-Ok-clause-written c =
    let t = c.self.inside.def in
    let read = c.deref_mut.result.now in
    let new = c.write_row-written.new.txns in
    of_change (lent (goal.at.returns-in-Ok-clause-written c).After-write_row-written)
    (λ (old now : TableChange). Writes (rows_put old.schema c.args.row.now old.rows) old now) c.self.inside.spoiled
    (change_wrote t (rows_put t c.args.row.now (rows_held t (nodes_of read))) read new c.in-Ok.ensures.written)

-- ---- a write that isn't

pub returns-in-Err-clause-answers : goal.returns-in-Err-clause-answers
returns-in-Err-clause-answers c =
    let t = c.self.inside.def in
    let read = c.deref_mut.result.now in
    let new = c.write_row-written.new.txns in
    let told = put_row t c.args.row.now (rows_held t (nodes_of read)) in
    let sound = ap (λ (x : TableChange). x.spoiled) c.self.view_is ∙ c.requires.ready.sound in
    of_change (lent (goal.at.returns-in-Err-clause-answers c).After-write_row-written)
    (λ (old now : TableChange). AnswersPut c.args.ids.now.next (put_row old.schema c.args.row.now old.rows) (Err c.in-Err.error) old now)
    c.is_memory-self-inside.result
    (put_refused c.args.ids.now.next t read new c.self.inside.spoiled c.is_memory-self-inside.result c.in-Err.error told sound
    c.is_memory-self-inside.ensures c.in-Err.ensures.drawn.start c.in-Err.ensures.answers)

pub returns-in-Err-clause-drawn : goal.returns-in-Err-clause-drawn
returns-in-Err-clause-drawn c =
    of_change (lent (goal.at.returns-in-Err-clause-drawn c).After-write_row-written)
    (λ (old now : TableChange). HasDrawnCells c.args.front.now (2 ^ 26) c.args.ids.now c.write_row-written.new.ids old now)
    c.is_memory-self-inside.result
    (change_drawn c.args.front.now (2 ^ 26) c.args.ids.now c.write_row-written.new.ids c.self.inside.def c.deref_mut.result.now
    c.write_row-written.new.txns c.self.inside.spoiled c.is_memory-self-inside.result c.write_row-written.ensures.drawn)
