use Rattle.client_script.specs.declared.command.WatchesCommand.TheVariants as watches_line
use Rattle.client_session.proofs.WatchTurns.{check_refused, looked_closed, looked_reading}
use Rattle.client_session.proofs.session_state.SessionState.check.Goals as goal

pub returns-in-Nothing-clause-turn : goal.returns-in-Nothing-clause-turn
returns-in-Nothing-clause-turn g c = looked_closed (watches_line.Check c.args.name.now) c.args.self.now c.in-Nothing.pass c.check.new.pass c.check.result c.in-Nothing.is c.check.ensures.looked c.check.ensures.told

pub returns-in-Reading-clause-turn : goal.returns-in-Reading-clause-turn
returns-in-Reading-clause-turn g c = looked_reading (watches_line.Check c.args.name.now) c.args.self.now c.in-Reading.pass c.check-in-Reading.new.pass c.in-Reading.field-1 c.check-in-Reading.result c.in-Reading.is c.requires.stands c.check-in-Reading.ensures.looked c.check-in-Reading.ensures.told

pub returns-in-Writing-clause-turn : goal.returns-in-Writing-clause-turn
returns-in-Writing-clause-turn g c = check_refused c.args.name.now c.args.self.now c.in-Writing.field-0 c.in-Writing.is c.requires.stands
