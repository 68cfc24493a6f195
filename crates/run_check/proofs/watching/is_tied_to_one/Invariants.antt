use Rattle.std.proofs.Common.{◌<◌, ℕ, get_or}
use Rattle.run_check.specs.inner.WatchView.{AtBoth, Tied}
use Rattle.run_check.proofs.watching.is_tied_to_one.Given as goal

-- none so far is so
abbrev pub invariant-loop-other : goal.invariant-loop-other
invariant-loop-other l = (k : ℕ) → k < l.other-index → AtBoth (Tied l.tie) l.watches.values.items (get_or l.places k 0) l.place → ⊥
