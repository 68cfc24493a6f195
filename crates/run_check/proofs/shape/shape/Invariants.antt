use Rattle.run_check.proofs.RepliesTaken.{AreHeard}
use Rattle.run_check.proofs.shape.shape.Given as goal

-- the replies of the clients so far stand before the place
abbrev pub invariant-loop-at : goal.invariant-loop-at
invariant-loop-at l = AreHeard l.words l.scripts l.out l.at l.clients.items l.place
