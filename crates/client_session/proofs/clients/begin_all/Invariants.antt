use Rattle.std.proofs.Common.{◌≡◌, ◌+◌, ◌++◌, ◌≤◌, drop, length}
use Rattle.std.specs.Prelude.{vec_capacity}
use Rattle.client_session.specs.Clients.{new_sessions}
use Rattle.client_session.proofs.clients.begin_all.Given as goal

-- those so far, and then those of the other passes and scripts, are all
abbrev pub invariant-loop-script : goal.invariant-loop-script
invariant-loop-script l = record {
  sessions : l.sessions.items ++ new_sessions l.passes.passes l.scripts ≡ new_sessions l.initial.passes.passes l.initial.scripts;
  enough : length l.scripts ≤ length l.passes.passes;
  rest : drop (length l.scripts) l.passes.passes ≡ drop (length l.initial.scripts) l.initial.passes.passes;
  made : l.passes.made ≡ l.initial.passes.made;
  room : length l.sessions.items + length l.scripts ≤ vec_capacity l.sessions;
}

abbrev pub decreases-loop-script : goal.decreases-loop-script
decreases-loop-script l = length l.scripts
