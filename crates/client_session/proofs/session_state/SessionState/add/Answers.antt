use Rattle.client_session.specs.inner.OpenView.{caller_of}
use Rattle.client_session.proofs.OpenTurns.{later_self}
use Rattle.client_session.proofs.WatchTurns.{add_told}
use Rattle.client_session.proofs.session_state.SessionState.add.Goals as goal

pub returns-clause-turn : goal.returns-clause-turn
returns-clause-turn c = add_told c.args.set.now c.args.name.now c.args.self.now c.add.new.self c.add.result c.requires.stands c.ids_tell_cells.ensures c.add.ensures

pub returns-clause-caller : goal.returns-clause-caller
returns-clause-caller c = later_self (caller_of c.args.self.now.«open»)
