use Rattle.std.proofs.Common.{refl}
use Rattle.std.specs.Prelude.{codes}
use Rattle.client_script.specs.declared.command.TransactionCommand.TheVariants as transaction_line
use Rattle.client_session.proofs.OpenTurns.{committed_result, nothing_refused, reading_refused}
use Rattle.client_session.proofs.open.Open.commit.Goals as goal

pub returns-in-Ok-clause-turn : goal.returns-in-Ok-clause-turn
returns-in-Ok-clause-turn g c = committed_result c.args.self c.in-Writing.txn c.in-Ok.committed c.committed_turn.result c.in-Writing.is c.in-Ok.ensures.1 c.committed_turn.ensures

pub returns-in-Reading-clause-turn : goal.returns-in-Reading-clause-turn
returns-in-Reading-clause-turn g c = reading_refused transaction_line.Commit c.args.self c.in-Reading.pass c.in-Reading.txn (codes "read-only") c.in-Reading.is c.requires.stands (λ v is. rw is refl)

pub returns-in-Nothing-clause-turn : goal.returns-in-Nothing-clause-turn
returns-in-Nothing-clause-turn g c = nothing_refused transaction_line.Commit c.args.self c.in-Nothing.pass (codes "no-transaction") c.in-Nothing.is (λ v is. rw is refl)
