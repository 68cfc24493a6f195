use Rattle.client_session.proofs.OneMoreLine.{first}
use Rattle.client_session.proofs.session_state.SessionState.new.Goals as goal

pub returns-clause-start : goal.returns-clause-start
returns-clause-start c = first c.args.pass c.new.result c.new-2.result c.new.ensures (c.new-2.ensures.knows c.args.pass) (c.new-2.ensures.holds c.args.pass)
