use Rattle.client_session.proofs.StateTurns.{present_reading, present_writing}
use Rattle.client_session.proofs.open.Open.present.Goals as goal

pub returns-in_ok-snapshot-in-Reading-clause-present : goal.returns-in_ok-snapshot-in-Reading-clause-present
returns-in_ok-snapshot-in-Reading-clause-present c = present_reading c.args.self.now c.in-Reading.field-0 c.in-Reading.txn c.in_ok-snapshot-in-Reading.field-0 c.number-number.result c.in-Reading.is c.requires.stands c.in_ok-snapshot-in-Reading.ensures c.number-number.ensures

pub returns-in-Ok-clause-present : goal.returns-in-Ok-clause-present
returns-in-Ok-clause-present c = present_writing c.args.self.now c.in-Writing.txn c.in-Ok.snapshot c.number-number-in-Writing.result c.in-Writing.is c.requires.stands c.in-Ok.ensures.answers c.number-number-in-Writing.ensures
