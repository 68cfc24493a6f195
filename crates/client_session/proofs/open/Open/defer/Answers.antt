use Rattle.std.proofs.Common.{rules, sym, subst, IfOk}
use Rattle.client_script.specs.declared.command.Command.TheVariants as command
use Rattle.client_session.specs.inner.OpenView.{Stands, TurnsTo, caller_of}
use Rattle.client_session.specs.inner.ReplyOf.{reply_of}
use Rattle.client_session.specs.declared.open.Open.TheVariants as opens
use Rattle.client_session.proofs.RequestTurns.{defer_turns}
use Rattle.client_session.proofs.open.Open.defer.Goals as goal
use Rattle.client_session.proofs.open.Open.defer.Goals.{in-Ok, in-Err}

pub returns-after-defer-clause-turn : goal.returns-after-defer-clause-turn
returns-after-defer-clause-turn c = elim c.match-defer.branch [
  | in-Ok w ↦ subst (λ x. IfOk x (λ r. TurnsTo (command.Defer c.args.text.now) c.args.self.now (opens.Writing c.defer.new.self) (reply_of (caller_of c.args.self.now).schema r))) (sym w.result-is) (defer_turns c.args.self.now c.in-Writing.txn c.defer.new.self c.args.text.now c.in_ok-of-in-Writing.field-0 c.in-Writing.is (search (rules)) w.in-Ok.ensures.txn w.in-Ok.ensures.kept (subst Stands c.in-Writing.is c.requires.stands))
  | in-Err w ↦ subst (λ x. IfOk x (λ r. TurnsTo (command.Defer c.args.text.now) c.args.self.now (opens.Writing c.defer.new.self) (reply_of (caller_of c.args.self.now).schema r))) (sym w.result-is) tt
]
