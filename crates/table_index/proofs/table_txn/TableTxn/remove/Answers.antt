use Rattle.std.proofs.Common.{◌^◌, ◌∙◌, ◌∷◌, [], Ok, Err, ap, rules}
use Rattle.std.proofs.lemmas.List.{places}
use Rattle.mdb_schema.specs.Write.{remove_row}
use Rattle.table_index.specs.Drawn.{HasDrawnCells}
use Rattle.table_index.specs.Table.{TableChange, AnswersRemove}
use Rattle.table_index.specs.Written.{Writes}
use Rattle.table_index.specs.inner.IndexTrees.{nodes_of, rows_held}
use Rattle.table_index.proofs.Changes.{AreLent, change_drawn, of_change, trees_held, trees_ready}
use Rattle.table_index.proofs.WriteAnswers.{removed_answer, remove_refused}
use Rattle.table_index.proofs.WrittenRows.{change_wrote}
use Rattle.table_index.proofs.table_txn.TableTxn.remove.Goals.{After-take_row-removed}
use Rattle.table_index.proofs.table_txn.TableTxn.remove.Goals as goal

pub take_row-removed-requires-clause-ready : goal.take_row-removed-requires-clause-ready
take_row-removed-requires-clause-ready c =
    trees_ready c.self.inside c.args.self.now c.self.view_is c.deref_mut.result.now c.deref_mut.ensures.value c.self.invariant
    c.args.front.now c.args.ids.now c.requires.ready

pub take_row-removed-requires-clause-held : goal.take_row-removed-requires-clause-held
take_row-removed-requires-clause-held c =
    trees_held c.self.inside c.args.self.now c.self.view_is c.deref_mut.result.now c.deref_mut.ensures.value c.self.invariant
    c.requires.ready.sound

-- ---- a write that is made

lent : (c : After-take_row-removed) → AreLent c.self.inside c.args.self.now c.deref_mut.result.now c.take_row-removed.new.txns
lent c = record { view = c.self.view_is; reads = c.deref_mut.ensures.value; count = search (rules, places) }

pub returns-in-Ok-clause-answers : goal.returns-in-Ok-clause-answers
returns-in-Ok-clause-answers c =
    let t = c.self.inside.def in
    let read = c.deref_mut.result.now in
    let new = c.take_row-removed.new.txns in
    let told = remove_row t c.args.row.now (rows_held t (nodes_of read)) in
    of_change (lent (goal.at.returns-in-Ok-clause-answers c).After-take_row-removed)
    (λ (old now : TableChange). AnswersRemove c.args.ids.now.next (remove_row old.schema c.args.row.now old.rows) (Ok c.in-Ok.old) old now)
    c.self.inside.spoiled
    (removed_answer c.args.ids.now.next t read new c.self.inside.spoiled told c.in-Ok.ensures.answers.0 c.in-Ok.ensures.drawn.start
    c.in-Ok.old c.in-Ok.ensures.answers.1)

pub returns-in-Ok-clause-drawn : goal.returns-in-Ok-clause-drawn
returns-in-Ok-clause-drawn c =
    of_change (lent (goal.at.returns-in-Ok-clause-drawn c).After-take_row-removed)
    (λ (old now : TableChange). HasDrawnCells c.args.front.now (2 ^ 26) c.args.ids.now c.take_row-removed.new.ids old now)
    c.self.inside.spoiled
    (change_drawn c.args.front.now (2 ^ 26) c.args.ids.now c.take_row-removed.new.ids c.self.inside.def c.deref_mut.result.now
    c.take_row-removed.new.txns c.self.inside.spoiled c.self.inside.spoiled c.take_row-removed.ensures.drawn)

pub returns-in-Ok-clause-written : goal.returns-in-Ok-clause-written
returns-in-Ok-clause-written c =
    let t = c.self.inside.def in
    let read = c.deref_mut.result.now in
    let new = c.take_row-removed.new.txns in
    of_change (lent (goal.at.returns-in-Ok-clause-written c).After-take_row-removed)
    (λ (old now : TableChange). Writes (c.in-Ok.old ∷ []) old now) c.self.inside.spoiled
    (change_wrote t (c.in-Ok.old ∷ []) read new c.in-Ok.ensures.written)

-- ---- a write that isn't

pub returns-in-Err-clause-answers : goal.returns-in-Err-clause-answers
returns-in-Err-clause-answers c =
    let t = c.self.inside.def in
    let read = c.deref_mut.result.now in
    let new = c.take_row-removed.new.txns in
    let told = remove_row t c.args.row.now (rows_held t (nodes_of read)) in
    let sound = ap (λ (x : TableChange). x.spoiled) c.self.view_is ∙ c.requires.ready.sound in
    of_change (lent (goal.at.returns-in-Err-clause-answers c).After-take_row-removed)
    (λ (old now : TableChange). AnswersRemove c.args.ids.now.next (remove_row old.schema c.args.row.now old.rows) (Err c.in-Err.error) old
    now) c.is_memory-self-inside.result
    (remove_refused c.args.ids.now.next t read new c.self.inside.spoiled c.is_memory-self-inside.result c.in-Err.error told sound
    c.is_memory-self-inside.ensures c.in-Err.ensures.drawn.start c.in-Err.ensures.answers)

pub returns-in-Err-clause-drawn : goal.returns-in-Err-clause-drawn
returns-in-Err-clause-drawn c =
    of_change (lent (goal.at.returns-in-Err-clause-drawn c).After-take_row-removed)
    (λ (old now : TableChange). HasDrawnCells c.args.front.now (2 ^ 26) c.args.ids.now c.take_row-removed.new.ids old now)
    c.is_memory-self-inside.result
    (change_drawn c.args.front.now (2 ^ 26) c.args.ids.now c.take_row-removed.new.ids c.self.inside.def c.deref_mut.result.now
    c.take_row-removed.new.txns c.self.inside.spoiled c.is_memory-self-inside.result c.take_row-removed.ensures.drawn)
