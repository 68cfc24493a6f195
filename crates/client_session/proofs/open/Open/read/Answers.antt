use Rattle.client_session.specs.inner.OpenView.{caller_of}
use Rattle.client_session.proofs.OpenTurns.{later_self, read_refused, begun_read}
use Rattle.client_session.proofs.open.Open.read.Goals as goal

pub returns-in-Ok-clause-turn : goal.returns-in-Ok-clause-turn
returns-in-Ok-clause-turn g c = begun_read c.args.self c.in-Nothing.pass c.read.new.pass c.in-Ok.txn c.number-number.result c.in-Nothing.is c.read.ensures.seen c.in-Ok.ensures.number c.in-Ok.ensures.read c.number-number.ensures

pub returns-in_default : goal.returns-in_default
returns-in_default g c = record {
  turn = read_refused c.args.self c.requires.stands c.in_default.not-Nothing;
  caller = later_self (caller_of c.args.self);
  unmade = tt;
}
