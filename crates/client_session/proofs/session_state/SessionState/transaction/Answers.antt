use Rattle.std.proofs.Common.{refl}
use Rattle.client_script.specs.declared.command.Command.TheVariants as command
use Rattle.client_session.proofs.StateTurns.{looked_told}
use Rattle.client_session.proofs.session_state.SessionState.transaction.Goals as goal

pub returns-clause-turn : goal.returns-clause-turn
returns-clause-turn g c = looked_told c.args.command.now (command.Transaction c.args.command.now) c.args.self c.turn-open.result.0 _ _ c.turn-open.result.1 refl refl c.turn-open.ensures.turn
