use Rattle.client_session.specs.inner.Carried.{CarriedOn}
use Rattle.client_session.specs.inner.OpenView.{caller_of}
use Rattle.client_session.proofs.run.answer_lines.Given as goal

abbrev pub invariant-loop-at : goal.invariant-loop-at
invariant-loop-at g l = CarriedOn (caller_of l.fn.state.«open») l.script l.fn.from l.at l.fn.transcript l.state l.transcript
