use Rattle.std.proofs.Common.{◌≡◌, List, drop, map}
use Rattle.client_script.specs.declared.line.Line.{Line}
use Rattle.run_check.specs.Commits.{bases}
use Rattle.run_check.specs.CommitView.{committed_of}
use Rattle.run_check.proofs.commits.check_bases.Given as goal

-- the commits so far pass
abbrev pub invariant-loop-commit : goal.invariant-loop-commit
invariant-loop-commit l =
    (scripts : List (List Line)) → bases (map (committed_of scripts) l.commits) ≡ bases (map (committed_of scripts) (drop l.commit-index l.commits))
