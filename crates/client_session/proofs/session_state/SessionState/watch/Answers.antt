use Rattle.client_session.proofs.WatchTurns.{asks_reading, asks_writing}
use Rattle.client_session.proofs.session_state.SessionState.watch.Goals as goal

pub returns-in-Reading-clause-turn : goal.returns-in-Reading-clause-turn
returns-in-Reading-clause-turn c = asks_reading c.args.self.now c.in-Reading.field-0 c.in-Reading.txn c.ask.new.self c.args.name.now c.args.query.now c.ask.result c.in-Reading.is c.requires.stands c.ask.ensures

pub returns-in-Writing-clause-turn : goal.returns-in-Writing-clause-turn
returns-in-Writing-clause-turn c = asks_writing c.args.self.now c.in-Writing.field-0 c.ask-in-Writing.new.self c.args.name.now c.args.query.now c.ask-in-Writing.result c.in-Writing.is c.ask-in-Writing.ensures
