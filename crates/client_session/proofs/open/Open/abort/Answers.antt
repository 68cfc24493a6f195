use Rattle.std.proofs.Common.{refl}
use Rattle.std.specs.Prelude.{codes}
use Rattle.client_script.specs.declared.command.TransactionCommand.TheVariants as transaction_line
use Rattle.client_session.proofs.OpenTurns.{aborted_turns, nothing_refused, reading_refused}
use Rattle.client_session.proofs.open.Open.abort.Goals as goal

pub returns-in-Writing-clause-turn : goal.returns-in-Writing-clause-turn
returns-in-Writing-clause-turn c = aborted_turns c.args.self c.abort.result c.in-Writing.txn c.in-Writing.is c.abort.ensures

pub returns-in-Reading-clause-turn : goal.returns-in-Reading-clause-turn
returns-in-Reading-clause-turn c = reading_refused transaction_line.Abort c.args.self c.in-Reading.pass c.in-Reading.txn (codes "read-only") c.in-Reading.is c.requires.stands (λ v is. rw is refl)

pub returns-in-Nothing-clause-turn : goal.returns-in-Nothing-clause-turn
returns-in-Nothing-clause-turn c = nothing_refused transaction_line.Abort c.args.self c.in-Nothing.pass (codes "no-transaction") c.in-Nothing.is (λ v is. rw is refl)
