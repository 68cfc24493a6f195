use Rattle.run_check.proofs.CommitsPrinted.{AreAllAdded}
use Rattle.run_check.proofs.commits.all_commits.Given as goal

-- the commits of the clients so far were added
abbrev pub invariant-loop-client : goal.invariant-loop-client
invariant-loop-client l = AreAllAdded l.scripts l.clients l.client l.commits.items
