use Rattle.std.proofs.Common.{rules, refl}
use Rattle.client_script.specs.declared.command.WatchesCommand.TheVariants as watches_line
use Rattle.client_session.proofs.StateTurns.{tried_told}
use Rattle.client_session.proofs.WatchTurns.{steps_once}
use Rattle.client_session.proofs.session_state.SessionState.step.Goals as goal

pub returns-in-Transaction-Write-clause-turn : goal.returns-in-Transaction-Write-clause-turn
returns-in-Transaction-Write-clause-turn g c = tried_told _ c.args.command.now c.args.self c.try_write-open.result.0 _ _ c.try_write-open.result.1 (search (rules)) refl c.try_write-open.ensures.turn

pub returns-in-Watches-Wait-clause-turn : goal.returns-in-Watches-Wait-clause-turn
returns-in-Watches-Wait-clause-turn g c = steps_once _ (watches_line.Wait c.in-Watches-Wait.set) c.args.command.now c.args.self c.wait_once-told.new.self _ c.wait_once-told.result (search (rules)) (λ old new one. one) c.wait_once-told.ensures.turn

pub returns-in-Watches-WaitUntil-clause-turn : goal.returns-in-Watches-WaitUntil-clause-turn
returns-in-Watches-WaitUntil-clause-turn g c = steps_once _ (watches_line.WaitUntil c.in-Watches-WaitUntil.set c.in-Watches-WaitUntil.until) c.args.command.now c.args.self c.wait_once-told-in-Watches-WaitUntil.new.self _ c.wait_once-told-in-Watches-WaitUntil.result (search (rules)) (λ old new one. one) c.wait_once-told-in-Watches-WaitUntil.ensures.turn
