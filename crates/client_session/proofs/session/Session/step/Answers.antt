use Rattle.std.proofs.Common.{rules, false, refl}
use Rattle.client_session.proofs.SessionSteps.{same_stopped, same_told}
use Rattle.client_session.proofs.session.Session.step.Goals as goal

pub returns-then-self-clause-told : goal.returns-then-self-clause-told
returns-then-self-clause-told g c =
    let f = c.self.inside in
    same_told c.args.self.now f.client f.script f.state f.state f.answered f.transcript f.failed c.self.view_is c.args.self.now c.args.self.now.writing refl c.self.invariant

pub returns-then-self-len-clause-told : goal.returns-then-self-len-clause-told
returns-then-self-len-clause-told g c =
    let f = c.self.inside in
    same_told c.args.self.now f.client f.script f.state f.state f.answered f.transcript f.failed c.self.view_is c.close.new.self false c.close.ensures c.self.invariant

pub returns-then-self-clause-stopped : goal.returns-then-self-clause-stopped
returns-then-self-clause-stopped g c =
    let f = c.self.inside in
    same_stopped c.args.self.now f.client f.script f.state f.state f.answered f.transcript f.failed c.self.view_is c.self.invariant (search (rules))
