use Rattle.std.specs.Prelude.{option_copied}
use Rattle.client_session.specs.inner.WatchingView.{wait_for}
use Rattle.client_session.proofs.WatchTurns.{looked_closed, looked_reading, wait_refused}
use Rattle.client_session.proofs.session_state.SessionState.wait.Goals as goal

pub returns-in-Nothing-clause-turn : goal.returns-in-Nothing-clause-turn
returns-in-Nothing-clause-turn g c = looked_closed (wait_for c.args.set.now (option_copied c.args.until)) c.args.self.now c.in-Nothing.pass c.wait.new.pass c.wait.result c.in-Nothing.is c.wait.ensures.looked c.wait.ensures.told

pub returns-in-Reading-clause-turn : goal.returns-in-Reading-clause-turn
returns-in-Reading-clause-turn g c = looked_reading (wait_for c.args.set.now (option_copied c.args.until)) c.args.self.now c.in-Reading.pass c.wait-in-Reading.new.pass c.in-Reading.field-1 c.wait-in-Reading.result c.in-Reading.is c.requires.stands c.wait-in-Reading.ensures.looked c.wait-in-Reading.ensures.told

pub returns-in-Writing-clause-turn : goal.returns-in-Writing-clause-turn
returns-in-Writing-clause-turn g c = wait_refused c.args.set.now (option_copied c.args.until) c.args.self.now c.in-Writing.field-0 c.in-Writing.is c.requires.stands
