use Rattle.std.specs.Prelude.{◌≡◌, ◌≤◌, ◌⊎◌}
use Rattle.run_check.specs.Commits.{accepted}
use Rattle.run_check.specs.CommitView.{writes_between}
use Rattle.run_check.specs.inner.HistoryView.{Makes}
use Rattle.run_check.proofs.history.commit_lines.Given as goal

-- so far
abbrev pub invariant-loop-at : goal.invariant-loop-at
invariant-loop-at l =
    Makes l.schema l.commit.number (λ s. accepted l.schema s (writes_between l.commit.first l.at l.script)) l.initial.store l.store
    × ((l.at ≡ l.commit.first) ⊎ (l.at ≤ l.commit.«end»))
