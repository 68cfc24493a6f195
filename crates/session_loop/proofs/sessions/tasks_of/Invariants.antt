use Rattle.std.proofs.Common.{◌≡◌, replicate}
use Rattle.session_loop.specs.inner.Tasks.{new_task}
use Rattle.session_loop.proofs.sessions.tasks_of.Given as goal

-- so many so far
abbrev pub invariant-loop : goal.invariant-loop
invariant-loop l = l.tasks.items ≡ replicate l.counter new_task
