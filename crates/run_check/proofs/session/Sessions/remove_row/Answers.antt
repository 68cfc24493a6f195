use Rattle.std.proofs.Common.{◌∙◌, ap}
use Rattle.mdb_datum.specs.Bytes.{Bytes}
use Rattle.run_check.specs.inner.ClientView.{changed_of}
use Rattle.run_check.specs.inner.WritingView.{changed_then}
use Rattle.run_check.proofs.OwnSteps.{AreLent, MayWrite, may_write, removal_done, removal_refused}
use Rattle.run_check.proofs.session.Sessions.remove_row.Goals as goal
use Rattle.run_check.proofs.session.Sessions.remove_row.Goals.{After-deref_mut}

-- the indexes of the table
lent : (c : After-deref_mut) → AreLent c.args.self.now c.args.table c.args.def.now c.index_mut-indexes.result.now c.deref_mut.result.now
lent c = record { there = c.requires.there; is = c.index_mut-indexes.ensures.value; same = c.deref_mut.ensures.value; len = c.deref_mut.ensures.len }

may : (c : After-deref_mut) → MayWrite c.args.writing.now c.args.table c.args.def.now c.deref_mut.result.now
may c =
    let (schema, H, txns, writing) = c.requires.writing in
    may_write schema H txns c.args.self.now c.args.writing.now writing c.args.table c.args.def.now c.index_mut-indexes.result.now c.deref_mut.result.now (lent c)

pub remove-requires : goal.remove-requires
remove-requires c = (may (goal.at.remove-requires c).After-deref_mut).ready

pub has_written-requires : goal.has_written-requires
has_written-requires c = (may (goal.at.has_written-requires c).After-deref_mut).few

pub returns-in_ok-has_written-in-Ok-clause-done : goal.returns-in_ok-has_written-in-Ok-clause-done
returns-in_ok-has_written-in-Ok-clause-done c = λ schema H txns name writing named.
    let w = c.args.writing.now in
    let has = c.in_ok-has_written-in-Ok.ensures in
    removal_done schema H txns c.args.self.now w writing c.args.table c.args.def.now c.index_mut-indexes.result.now c.deref_mut.result.now (lent (goal.at.returns-in_ok-has_written-in-Ok-clause-done c).After-deref_mut) c.remove.new.indexes
    c.in-Ok.ensures.long name c.args.row.now named c.sight.result c.sight.ensures c.in-Ok.id c.in-Ok.ensures.done
    c.has_written.new.writing has.one_more (has.changed ∙ ap (λ (k : Bytes). changed_then c.args.def.now.tracked c.args.table k (changed_of w)) c.deref.ensures.value) has.kept

pub returns-in-Err-clause-done : goal.returns-in-Err-clause-done
returns-in-Err-clause-done c = λ schema H txns name writing named.
    removal_refused schema H txns c.args.self.now c.args.writing.now writing c.args.table c.args.def.now c.index_mut-indexes.result.now c.deref_mut.result.now (lent (goal.at.returns-in-Err-clause-done c).After-deref_mut) c.remove.new.indexes
    name c.args.row.now named c.sight.result c.sight.ensures c.in-Err.error c.in-Err.ensures.done
