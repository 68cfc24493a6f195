use Rattle.std.specs.Prelude.{option_map}
use Rattle.client_session.specs.Waiting.{awaited_of}
use Rattle.client_session.proofs.AwaitedLines.{until_awaits, wait_awaits}
use Rattle.client_session.proofs.session_state.SessionState.awaited_by.Goals as goal

pub returns-in-Wait : goal.returns-in-Wait
returns-in-Wait c = wait_awaits c.args.self.now c.args.line.now (option_map awaited_of c.awaited.result) c.requires.free c.in-Wait.set c.in-Wait.is c.awaited.ensures

pub returns-in-WaitUntil : goal.returns-in-WaitUntil
returns-in-WaitUntil c = until_awaits c.args.self.now c.args.line.now (option_map awaited_of c.awaited-in-WaitUntil.result) c.requires.free c.in-WaitUntil.set c.in-WaitUntil.until c.in-WaitUntil.is c.awaited-in-WaitUntil.ensures
