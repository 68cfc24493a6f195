use Rattle.std.proofs.Common.{ap, refl}
use Rattle.client_script.specs.declared.command.AskCommand.TheVariants as ask_line
use Rattle.client_script.specs.declared.command.Command.TheVariants as command
use Rattle.client_session.proofs.StateTurns.{replies_told}
use Rattle.client_session.proofs.session_state.SessionState.ask.Goals as goal

pub returns-in-Question-clause-turn : goal.returns-in-Question-clause-turn
returns-in-Question-clause-turn c = replies_told (command.Ask (ask_line.Question c.in-Question.query)) (command.Ask c.args.command.now) c.args.self.now c.ask.new.self _ _ c.ask.result (ap command.Ask c.in-Question.is) refl tt c.ask.ensures.turn
