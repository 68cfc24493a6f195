use Rattle.std.proofs.Common.{◌≡◌, ◌≤◌, length}
use Rattle.client_session.specs.Clients.{AreLater}
use Rattle.session_loop.specs.inner.Endings.{HasLoopPass, KeepsPass}
use Rattle.session_loop.specs.inner.Tasks.{AreInLoop, scripts_of}
use Rattle.session_loop.proofs.sessions.run_clients.Given as goal

-- the sessions stand in the loop, as later ones, and its pass is there
abbrev pub invariant-loop : goal.invariant-loop
invariant-loop g l = record {
  inside : AreInLoop l.clients.db l.clients.sessions.items l.tasks.items;
  few : length l.clients.sessions.items ≤ 64;
  pass : HasLoopPass l.clients.db l.clients.passes;
  later : AreLater l.initial.clients.sessions.items l.clients.sessions.items;
  scripts : scripts_of l.clients.sessions.items ≡ scripts_of l.initial.clients.sessions.items;
  db : l.clients.db ≡ l.initial.clients.db;
  passes : KeepsPass l.initial.clients.passes l.clients.passes;
}
