use Rattle.client_session.proofs.WatchTurns.{once_closed, once_reading, once_refused}
use Rattle.client_session.specs.inner.WatchingView.{wait_for}
use Rattle.std.specs.Prelude.{option_copied}
use Rattle.client_session.proofs.session_state.SessionState.wait_once.Goals as goal

pub returns-in-Nothing-clause-turn : goal.returns-in-Nothing-clause-turn
returns-in-Nothing-clause-turn g c = once_closed (wait_for c.args.set.now (option_copied c.args.until)) c.args.self.now c.in-Nothing.pass c.look_once.new.pass c.look_once.result c.in-Nothing.is c.look_once.ensures.looked c.look_once.ensures.told

pub returns-in-Reading-clause-turn : goal.returns-in-Reading-clause-turn
returns-in-Reading-clause-turn g c = once_reading (wait_for c.args.set.now (option_copied c.args.until)) c.args.self.now c.in-Reading.pass c.look_once-in-Reading.new.pass c.in-Reading.field-1 c.look_once-in-Reading.result c.in-Reading.is c.requires.stands c.look_once-in-Reading.ensures.looked c.look_once-in-Reading.ensures.told

pub returns-in-Writing-clause-turn : goal.returns-in-Writing-clause-turn
returns-in-Writing-clause-turn g c = once_refused c.args.set.now (option_copied c.args.until) c.args.self.now c.in-Writing.field-0 c.in-Writing.is c.requires.stands
