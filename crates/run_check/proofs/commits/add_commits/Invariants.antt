use Rattle.run_check.proofs.CommitsPrinted.{AreAdded}
use Rattle.run_check.proofs.commits.add_commits.Given as goal

-- the commits of the lines so far were added
abbrev pub invariant-loop-at : goal.invariant-loop-at
invariant-loop-at l = AreAdded l.client l.script l.replies l.fn.commits.items l.at l.working l.commits.items
