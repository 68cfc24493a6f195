use Rattle.std.proofs.Common.{IfOk, rules, subst}
use Rattle.client_script.specs.declared.command.Command.TheVariants as command
use Rattle.client_script.specs.declared.command.NameCommand.TheVariants as name_line
use Rattle.client_session.specs.declared.session_state.SessionState.{SessionState}
use Rattle.client_session.specs.inner.StateView.{RepliesTo}
use Rattle.client_session.specs.inner.OpenView.{caller_of}
use Rattle.client_session.specs.inner.ReplyOf.{reply_of}
use Rattle.client_session.proofs.session_state.SessionState.keep.Goals as goal

pub returns-else-has-clause-turn : goal.returns-else-has-clause-turn
returns-else-has-clause-turn c =
    subst (λ (d : SessionState). IfOk c.keep_new.result (λ r. RepliesTo (command.Name (name_line.Snapshot c.args.name.now)) d c.keep_new.new.self (reply_of (caller_of d.«open»).schema r)))
    (search rules) c.keep_new.ensures.turn
