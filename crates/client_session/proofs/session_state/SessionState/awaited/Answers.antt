use Rattle.std.proofs.Common.{◌∙◌, sym}
use Rattle.client_session.proofs.AwaitedLines.{nothing_in_a_write}
use Rattle.client_session.proofs.session_state.SessionState.awaited.Goals as goal

pub returns-then-is_writing : goal.returns-then-is_writing
returns-then-is_writing c = λ v follows. nothing_in_a_write c.args.self.now (sym c.is_writing.ensures ∙ c.if-is_writing.true) v follows c.args.command.now
