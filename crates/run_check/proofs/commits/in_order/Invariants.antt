use Rattle.std.proofs.Common.{List, map}
use Rattle.client_script.specs.declared.line.Line.{Line}
use Rattle.run_check.specs.CommitView.{committed_of}
use Rattle.run_check.proofs.NumbersPlaced.{ArePlaced}
use Rattle.run_check.proofs.commits.in_order.Given as goal

-- the numbers of the commits so far have their places
abbrev pub invariant-loop-at : goal.invariant-loop-at
invariant-loop-at l = (scripts : List (List Line)) → ArePlaced (map (committed_of scripts) l.commits) l.at l.order.items
