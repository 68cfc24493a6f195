use Rattle.client_session.specs.inner.OpenView.{caller_of}
use Rattle.client_session.proofs.OpenTurns.{later_self}
use Rattle.client_session.proofs.WatchTurns.{add_limit_told}
use Rattle.client_session.proofs.session_state.SessionState.add_limit.Goals as goal

pub returns-clause-turn : goal.returns-clause-turn
returns-clause-turn c = add_limit_told c.args.set.now c.args.limit c.args.name.now c.args.other.now c.args.self.now c.add_limit.new.self c.add_limit.result c.requires.stands c.ids_tell_cells.ensures c.add_limit.ensures

pub returns-clause-caller : goal.returns-clause-caller
returns-clause-caller c = later_self (caller_of c.args.self.now.«open»)
