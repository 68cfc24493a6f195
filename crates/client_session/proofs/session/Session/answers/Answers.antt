use Rattle.client_session.proofs.SessionSteps.{kept_told}
use Rattle.client_session.proofs.session.Session.answers.Goals as goal

pub returns-clause-told : goal.returns-clause-told
returns-clause-told c =
    let f = c.self.inside in
    kept_told c.args.self.now f.client f.script f.state f.state f.answered f.transcript f.failed c.self.view_is c.self.invariant
