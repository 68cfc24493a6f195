use Rattle.std.specs.Prelude.{map}
use Rattle.run_check.specs.CommitView.{committed_of}
use Rattle.run_check.specs.inner.HistoryView.{HasMade}
use Rattle.run_check.proofs.history.history_of.Given as goal

-- so far
abbrev pub invariant-loop-at : goal.invariant-loop-at
invariant-loop-at l = HasMade l.schema (map (committed_of l.scripts) l.commits) l.at l.store
