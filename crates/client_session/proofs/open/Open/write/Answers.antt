use Rattle.std.proofs.Common.{rules}
use Rattle.client_session.specs.inner.OpenView.{caller_of}
use Rattle.client_session.proofs.OpenTurns.{later_self, write_refused, begun_write, spent_write}
use Rattle.client_session.proofs.open.Open.write.Goals as goal

pub returns-in-Ok-clause-turn : goal.returns-in-Ok-clause-turn
returns-in-Ok-clause-turn g c = begun_write c.args.self c.in-Nothing.pass c.in-Ok.txn c.number-number.result c.in-Nothing.is c.in-Ok.ensures.0 c.in-Ok.ensures.1 c.in-Ok.ensures.2 c.in-Ok.ensures.3 c.in-Ok.ensures.4 c.number-number.ensures

pub returns-in-Err-CommitsSpent-clause-turn : goal.returns-in-Err-CommitsSpent-clause-turn
returns-in-Err-CommitsSpent-clause-turn g c = spent_write c.args.self c.in-Nothing.pass c.in-Err-CommitsSpent.field-0 c.in-Nothing.is (search (rules)) c.in-Err-CommitsSpent.ensures.0 c.in-Err-CommitsSpent.ensures.1

pub returns-in_default : goal.returns-in_default
returns-in_default g c = record {
  turn = write_refused c.args.self c.requires.stands c.in_default.not-Nothing;
  caller = later_self (caller_of c.args.self);
  unmade = tt;
}
