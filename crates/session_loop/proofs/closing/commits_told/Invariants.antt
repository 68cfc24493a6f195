use Rattle.std.proofs.Common.{◌≡◌, ◌+◌, drop}
use Rattle.session_loop.specs.inner.Rest.{commits_told}
use Rattle.session_loop.proofs.closing.commits_told.Given as goal

-- the commits so far and those of the other sessions are all
abbrev pub invariant-loop-session : goal.invariant-loop-session
invariant-loop-session l = l.sum + commits_told (drop l.session-index l.sessions) ≡ commits_told l.sessions
