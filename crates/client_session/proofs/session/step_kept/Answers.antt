use Rattle.std.proofs.Common.{rules}
use Rattle.client_session.proofs.session.step_kept.Goals as goal

pub returns : goal.returns
returns g c = record {
  old = c.take_state-state.result;
  new = c.step_line-state.result.0;
  was = search (rules);
  is = search (rules);
  answered = c.step_line-state.ensures.answered;
  same = c.step_line-state.ensures.kept;
  stopped = c.step_line-state.ensures.stopped;
  closed = c.step_line-state.ensures.closed;
  later = c.step_line-state.ensures.caller;
}
