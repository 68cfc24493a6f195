use Rattle.std.proofs.Common.{◌≡◌}
use Rattle.client_session.specs.Clients.{AreLater}
use Rattle.session_loop.proofs.RoundTurns.{TookTurns}
use Rattle.session_loop.specs.inner.Tasks.{AreInLoop, scripts_of}
use Rattle.session_loop.specs.inner.Turns.{no_polls}
use Rattle.session_loop.proofs.round.poll_each.Given as goal

-- those before this place took their turns
abbrev pub invariant-loop-at : goal.invariant-loop-at
invariant-loop-at g l = record {
  turns : TookTurns l.db l.at l.initial.sessions l.sessions l.initial.tasks l.tasks no_polls l.round;
  inside : AreInLoop l.db l.sessions l.tasks;
  later : AreLater l.initial.sessions l.sessions;
  scripts : scripts_of l.sessions ≡ scripts_of l.initial.sessions;
}
