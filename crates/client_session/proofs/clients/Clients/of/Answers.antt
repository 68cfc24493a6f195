-- A new database's first passes go to its sessions.
use Rattle.std.proofs.Common.{arith, ◌+◌, length}
use Rattle.client_session.proofs.ManyClients.{as_many_passes}
use Rattle.client_session.proofs.clients.Clients.of.Goals as goal

pub begin_all-sessions-requires-clause-passes : goal.begin_all-sessions-requires-clause-passes
begin_all-sessions-requires-clause-passes c =
    let all = as_many_passes c.args.db c.requires.passes.0 (length c.args.scripts + c.args.further) c.args.passes c.requires.passes.1 in
    omega (arith, all)

pub returns-clause-opened : goal.returns-clause-opened
returns-clause-opened c = record {
  opening = c.requires.passes.0;
  all = c.args.passes;
  are_all = c.requires.passes.1;
  callers = c.requires.callers;
  sessions = c.begin_all-sessions.ensures.sessions;
  rest = c.begin_all-sessions.ensures.passes;
}
