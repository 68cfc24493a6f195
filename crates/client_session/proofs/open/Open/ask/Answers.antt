use Rattle.std.proofs.Common.{subst}
use Rattle.client_session.specs.inner.OpenView.{Stands}
use Rattle.client_session.proofs.RequestTurns.{reading_asked, writing_answered, writing_refused}
use Rattle.client_session.proofs.open.Open.ask.Goals as goal

pub returns-in_ok-share-in-Reading-clause-turn : goal.returns-in_ok-share-in-Reading-clause-turn
returns-in_ok-share-in-Reading-clause-turn c = reading_asked c.args.self.now c.in-Reading.field-0 c.in-Reading.txn _ c.args.query.now _ c.in-Reading.is (subst Stands c.in-Reading.is c.requires.stands) c.in_ok-snapshot-in-Reading.ensures c.in_ok-share-in-Reading.ensures

pub returns-in-Ok-clause-turn : goal.returns-in-Ok-clause-turn
returns-in-Ok-clause-turn c = writing_answered c.args.self.now c.in-Writing.txn c.ask.new.self c.args.query.now c.in-Ok.answer c.in-Writing.is (subst Stands c.in-Writing.is c.requires.stands) c.in-Ok.ensures.answers c.in-Ok.ensures.txn c.in-Ok.ensures.items

pub returns-in-Err-clause-turn : goal.returns-in-Err-clause-turn
returns-in-Err-clause-turn c = writing_refused c.args.self.now c.in-Writing.txn c.ask.new.self c.args.query.now c.in-Err.error c.txn_question_rule.result c.refused.result c.in-Writing.is (subst Stands c.in-Writing.is c.requires.stands) c.in-Err.ensures.answers c.in-Err.ensures.txn c.in-Err.ensures.items c.txn_question_rule.ensures c.refused.ensures
