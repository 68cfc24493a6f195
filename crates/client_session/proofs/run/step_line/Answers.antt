use Rattle.client_session.specs.inner.OpenView.{caller_of}
use Rattle.client_session.proofs.UntoldCommits.{back_stopped, step_stopped}
use Rattle.client_session.proofs.run.step_line.Goals as goal

pub returns-in-Err-clause-stopped : goal.returns-in-Err-clause-stopped
returns-in-Err-clause-stopped g c = back_stopped c.args.line.now c.args.state (caller_of c.step-state.result.0.«open») (caller_of c.closed.result.«open») c.closed.ensures.caller (step_stopped c.args.db.now.callers c.args.line.now c.args.state c.step-state.result.0 (caller_of c.args.state.«open»).schema c.step-state.result.1 c.step-state.ensures.turn c.step-state.ensures.unmade)
