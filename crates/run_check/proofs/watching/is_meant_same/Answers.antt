use Rattle.std.proofs.Common.{Decides, subst, sym}
use Rattle.mdb_datum.specs.Pairs.{first_item, last_item}
use Rattle.mdb_schema.specs.declared.ask.Ask.{Ask}
use Rattle.run_check.specs.inner.GuardView.{IsMeantSame}
use Rattle.run_check.proofs.GuardedAnswers.{all_meant_same}
use Rattle.run_check.proofs.IndexLooks.{all_same_decides, picked_same_decides}
use Rattle.run_check.proofs.watching.is_meant_same.Goals as goal

pub returns-in-First : goal.returns-in-First
returns-in-First c meant means =
    subst (λ (a : Ask). Decides c.is_first_same.result (IsMeantSame a meant c.args.first c.args.last c.args.index.now)) (sym c.in-First.is)
    (picked_same_decides c.args.index.now c.args.keys.now meant means c.slots_of.ensures.order _ c.slots_of.ensures.within
    first_item c.args.first c.args.last _ c.is_first_same.ensures)

pub returns-in-Last : goal.returns-in-Last
returns-in-Last c meant means =
    subst (λ (a : Ask). Decides c.is_last_same.result (IsMeantSame a meant c.args.first c.args.last c.args.index.now)) (sym c.in-Last.is)
    (picked_same_decides c.args.index.now c.args.keys.now meant means c.slots_of-in-Last.ensures.order _ c.slots_of-in-Last.ensures.within
    last_item c.args.first c.args.last _ c.is_last_same.ensures)

pub returns-in_default : goal.returns-in_default
returns-in_default c meant means =
    all_meant_same c.args.ask meant c.args.first c.args.last c.args.index.now c.are_all_same.result c.in_default.not-First c.in_default.not-Last
    (all_same_decides c.args.index.now c.args.keys.now meant means c.slots_of-in_default.ensures.order _ c.slots_of-in_default.ensures.within
    c.args.first c.args.last _ c.slots_of-in_default.ensures.sorted c.are_all_same.ensures)
