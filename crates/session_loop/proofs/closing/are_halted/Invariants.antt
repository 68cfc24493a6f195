use Rattle.session_loop.proofs.ClosingLook.{HaltSoFar}
use Rattle.session_loop.proofs.closing.are_halted.Given as goal

-- the sessions so far have halted
abbrev pub invariant-loop-at : goal.invariant-loop-at
invariant-loop-at l = HaltSoFar l.front l.sessions l.tasks l.at
