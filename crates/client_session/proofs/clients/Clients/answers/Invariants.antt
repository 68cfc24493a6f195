use Rattle.std.proofs.Common.{◌≡◌, ◌+◌, ◌++◌, drop}
use Rattle.client_session.specs.Clients.{headed}
use Rattle.client_session.proofs.clients.Clients.answers.Given as goal

-- the answers so far, and then those of the other sessions, are all
abbrev pub invariant-loop-at : goal.invariant-loop-at
invariant-loop-at l = l.out.items ++ headed (l.at + 1) (drop l.at l.names) (drop l.at l.self.sessions.items) ≡ headed 1 l.names l.self.sessions.items
