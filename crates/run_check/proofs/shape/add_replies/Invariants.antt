use Rattle.run_check.proofs.RepliesTaken.{AreReplied}
use Rattle.run_check.proofs.shape.add_replies.Given as goal

-- the replies to the lines so far stand before the place
abbrev pub invariant-loop-at : goal.invariant-loop-at
invariant-loop-at l = AreReplied l.script l.fn.start l.at l.mode l.replies.items l.place
