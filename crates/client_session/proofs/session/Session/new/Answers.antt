use Rattle.client_session.proofs.SessionSteps.{begins}
use Rattle.client_session.proofs.session.Session.new.Goals as goal

pub invariant_of-result : goal.invariant_of-result
invariant_of-result c = begins c.args.script c.new.result c.new-2.result c.new.ensures.start c.new-2.ensures
