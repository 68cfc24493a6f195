use Rattle.std.proofs.Common.{◌≡◌, ◌+◌, ◌++◌, ◌≤◌, length}
use Rattle.mem_txn.specs.Database.{AreOf}
use Rattle.client_session.specs.Clients.{callers_back}
use Rattle.client_session.proofs.clients.end_all.Given as goal

-- the passes so far, and then those of the other sessions, are all
abbrev pub invariant-loop-session : goal.invariant-loop-session
invariant-loop-session l = record {
  passes : l.passes.passes ++ callers_back l.sessions.items ≡ l.initial.passes.passes ++ callers_back l.initial.sessions.items;
  made : l.passes.made ≡ l.initial.passes.made;
  own : AreOf l.db (callers_back l.sessions.items);
  room : length l.passes.passes + length l.sessions.items ≤ l.passes.made;
}

abbrev pub decreases-loop-session : goal.decreases-loop-session
decreases-loop-session l = length l.sessions.items
