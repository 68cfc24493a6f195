-- A notice without a list has the two trees that its cells are told by.
use Rattle.std.proofs.Common.{arith}
use Rattle.notify_walk.proofs.Walked.{notice_fired, old_of}
use Rattle.notify_walk.proofs.fire_all.Goals as goal

pub fire_gone-requires-clause-of : goal.fire_gone-requires-clause-of
fire_gone-requires-clause-of c =
    old_of c.args.notice.now c.in-Some.old.now c.in-Some.new.now c.args.front.now.book (omega (arith, c.in-Some.ensures.beyond)) c.requires.book c.in-Some.ensures.trees

pub returns-in-Some-clause-fired : goal.returns-in-Some-clause-fired
returns-in-Some-clause-fired c =
    notice_fired c.args.notice.now c.in-Some.old.now c.in-Some.new.now c.fire_gone.result c.in-Some.ensures.trees.notice c.fire_gone.ensures.told
