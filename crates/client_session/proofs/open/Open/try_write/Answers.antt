use Rattle.std.proofs.Common.{rules, inl, refl}
use Rattle.mem_txn.specs.Transactions.{txn_of}
use Rattle.client_session.specs.inner.OpenView.{caller_of}
use Rattle.client_session.proofs.OpenTurns.{later_self, write_refused, begun_write, spent_write, try_began, won_from}
use Rattle.client_session.proofs.open.Open.try_write.Goals as goal

pub returns-in-Ok-Begun-clause-turn : goal.returns-in-Ok-Begun-clause-turn
returns-in-Ok-Begun-clause-turn g c =
    let began = try_began _ c.in-Nothing.pass c.in-Ok-Begun.field-0 c.in-Ok-Begun.txn c.in-Ok-Begun.field-0-is c.in-Ok-Begun.ensures in
    let begins = began.0 in (
      begun_write c.args.self c.in-Nothing.pass c.in-Ok-Begun.txn c.number-number.result c.in-Nothing.is begins.0 begins.1 begins.2 begins.3 begins.4 c.number-number.ensures,
      won_from c.args.self c.in-Nothing.pass (txn_of c.in-Ok-Begun.txn).caller c.in-Nothing.is began.1,
    )

pub returns-in-Err-CommitsSpent-clause-turn : goal.returns-in-Err-CommitsSpent-clause-turn
returns-in-Err-CommitsSpent-clause-turn g c = (
  spent_write c.args.self c.in-Nothing.pass c.in-Err-CommitsSpent.field-0 c.in-Nothing.is (search (rules)) c.in-Err-CommitsSpent.ensures.0 c.in-Err-CommitsSpent.ensures.1,
  won_from c.args.self c.in-Nothing.pass c.in-Err-CommitsSpent.field-0.pass c.in-Nothing.is c.in-Err-CommitsSpent.ensures.2,
)

pub returns-in_default : goal.returns-in_default
returns-in_default g c = record {
  turn = (write_refused c.args.self c.requires.stands c.in_default.not-Nothing, inl refl);
  caller = later_self (caller_of c.args.self);
  unmade = tt;
}
