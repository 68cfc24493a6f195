use Rattle.client_session.specs.inner.OpenView.{caller_of}
use Rattle.client_session.proofs.OneMoreLine.{carried_ok, stopped_err}
use Rattle.client_session.proofs.run.carry_out.Goals as goal

pub returns-clause-answered : goal.returns-clause-answered
returns-clause-answered g c = carried_ok (caller_of c.args.state.«open») (caller_of c.closed.result.«open») c.args.script.now c.args.from c.answer_lines-state.result.1 c.answer_lines-state.result.0 c.args.transcript.now c.answer_lines-state.new.transcript c.answer_lines-state.result.2 c.closed.ensures.caller c.answer_lines-state.ensures.answered

pub returns-clause-stopped : goal.returns-clause-stopped
returns-clause-stopped g c = stopped_err (caller_of c.args.state.«open») (caller_of c.answer_lines-state.result.0.«open») (caller_of c.closed.result.«open») c.args.script.now c.args.from c.answer_lines-state.result.1 c.args.transcript.now c.answer_lines-state.new.transcript c.answer_lines-state.result.2 c.closed.ensures.caller c.answer_lines-state.ensures.stopped
