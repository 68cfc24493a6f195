use Rattle.std.specs.Prelude.{take}
use Rattle.run_check.specs.inner.HistoryView.{Makes, removed_each}
use Rattle.run_check.proofs.history.remove_rows.Given as goal

-- so many rows are out
abbrev pub invariant-loop-at : goal.invariant-loop-at
invariant-loop-at l = Makes l.schema l.number (removed_each l.schema l.table (take l.at l.rows)) l.initial.store l.store
