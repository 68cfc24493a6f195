use Rattle.std.proofs.Common.{◌≡◌, ◌+◌, drop}
use Rattle.session_loop.specs.inner.Halted.{first_parked}
use Rattle.session_loop.specs.inner.Tasks.{states_of}
use Rattle.session_loop.proofs.stop.first_parked.Given as goal

-- none so far is parked
abbrev pub invariant-loop-at : goal.invariant-loop-at
invariant-loop-at l = first_parked 1 (states_of l.tasks) ≡ first_parked (l.at + 1) (states_of (drop l.at l.tasks))
