use Rattle.std.proofs.Common.{rules}
use Rattle.client_session.proofs.SessionSteps.{answered_ok, kept_by, told_by, stopped_on_err}
use Rattle.client_session.proofs.session.Session.carry_out.Goals as goal

pub invariant_of-self : goal.invariant_of-self
invariant_of-self g c =
    let f = c.self.inside in
    kept_by c.args.self.now f.client f.script f.state c.put_state.new.kept f.answered f.transcript f.failed c.self.view_is c.take_state-state.result c.carry_out-state.result.0 c.carry_out-state.result.1 c.carry_out-state.new.transcript c.is_err-self-inside.result c.carry_out-state.result.2 (search (rules)) (search (rules)) c.carry_out-state.ensures.told c.carry_out-state.ensures.answered c.carry_out-state.ensures.place c.carry_out-state.ensures.all c.carry_out-state.ensures.closed

pub returns-clause-told : goal.returns-clause-told
returns-clause-told g c =
    let f = c.self.inside in
    told_by c.args.self.now f.client f.script f.state c.put_state.new.kept f.answered f.transcript f.failed c.self.view_is c.take_state-state.result c.carry_out-state.result.0 c.carry_out-state.result.1 c.carry_out-state.new.transcript c.is_err-self-inside.result c.carry_out-state.result.2 (search (rules)) (search (rules)) (search (rules)) c.carry_out-state.ensures.told c.carry_out-state.ensures.answered

pub returns-clause-answered : goal.returns-clause-answered
returns-clause-answered g c =
    let f = c.self.inside in
    answered_ok c.args.self.now f.client f.script f.state c.put_state.new.kept f.answered f.transcript f.failed c.self.view_is c.take_state-state.result c.carry_out-state.result.0 c.carry_out-state.result.1 c.carry_out-state.new.transcript c.is_err-self-inside.result c.carry_out-state.result.2 (search (rules)) (search (rules)) c.carry_out-state.ensures.answered

pub returns-clause-stopped : goal.returns-clause-stopped
returns-clause-stopped g c =
    let f = c.self.inside in
    stopped_on_err c.args.self.now f.client f.script f.state c.put_state.new.kept f.answered f.transcript f.failed c.self.view_is c.take_state-state.result c.carry_out-state.result.0 c.carry_out-state.result.1 c.carry_out-state.new.transcript c.is_err-self-inside.result c.carry_out-state.result.2 (search (rules)) (search (rules)) (search (rules)) c.carry_out-state.ensures.closed c.carry_out-state.ensures.stopped
