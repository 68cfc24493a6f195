-- Where all are found at rest, the first that is parked is the first that has a line left.
use Rattle.std.proofs.Common.{rules}
use Rattle.session_loop.proofs.LoopEnds.{few_tasks, kept_self, stopped_after}
use Rattle.session_loop.proofs.sessions.stop_behind.Goals as goal

pub returns-then-not-is_quiet-clause-passes : goal.returns-then-not-is_quiet-clause-passes
returns-then-not-is_quiet-clause-passes g c = kept_self c.args.clients.now.db c.args.clients.now.passes c.requires.pass

pub first_parked-requires : goal.first_parked-requires
first_parked-requires g c =
    let was = c.args.clients.now in
    few_tasks was.db was.sessions.items c.args.tasks.now c.requires.inside c.requires.few

pub returns-clause-stopped : goal.returns-clause-stopped
returns-clause-stopped g c some =
    let was = c.args.clients.now in
    let now = c.are_stuck.new.clients in
    stopped_after was.db was.sessions.items now.sessions.items c.args.tasks.now now.passes c.first_parked.result c.are_stuck.ensures.sessions c.requires.inside (search (rules)) (search (rules)) c.first_parked.ensures
