use Rattle.std.proofs.Common.{drop, length}
use Rattle.client_session.specs.Clients.{new_sessions}
use Rattle.client_session.proofs.ClientLists.{all_sessions, rest_left}
use Rattle.client_session.proofs.clients.begin_all.Goals as goal

pub returns-clause-sessions : goal.returns-clause-sessions
returns-clause-sessions c =
    let l = c.loop-script in
    all_sessions l.sessions.items (new_sessions c.args.passes.now.passes c.args.scripts) l.passes.passes l.scripts c.in_default.ensures.first l.invariant.sessions

pub returns-clause-passes : goal.returns-clause-passes
returns-clause-passes c =
    let l = c.loop-script in
    rest_left l.passes l.scripts c.args.passes.now.made (drop (length c.args.scripts) c.args.passes.now.passes) c.in_default.ensures.first l.invariant.rest l.invariant.made
