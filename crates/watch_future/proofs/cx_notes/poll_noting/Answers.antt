use Rattle.std.proofs.Common.{refl}
use Rattle.watch_future.specs.Facts.Fact.{lent, in_context, in_order}
use Rattle.watch_future.proofs.Registered.{covers_then, noted_then, order_none}
use Rattle.watch_future.proofs.PollsAgain.{some_awaited}
use Rattle.watch_future.proofs.cx_notes.poll_noting.Goals as goal

pub returns-clause-same_reference : goal.returns-clause-same_reference
returns-clause-same_reference g c = c.poll_watch.ensures.lasts (lent _) refl

pub returns-clause-kept : goal.returns-clause-kept
returns-clause-kept g c = λ f is. c.poll_watch.ensures.lasts (in_context f) is

pub returns-clause-registered : goal.returns-clause-registered
returns-clause-registered g c =
    covers_then c.poll_watch.result c.args.notes.now c.poll_watch.new.notes _ c.requires.none
    (c.poll_watch.ensures.lasts in_order (order_none c.args.notes.now c.requires.none))
    c.poll_watch.ensures.noted (some_awaited c.args.set.now _ (let can = c.requires.can in can.some))

pub returns-clause-noted : goal.returns-clause-noted
returns-clause-noted g c = noted_then c.poll_watch.result c.args.notes.now c.poll_watch.new.notes _ c.requires.none c.poll_watch.ensures.noted
