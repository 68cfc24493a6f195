use Rattle.std.proofs.Common.{refl}
use Rattle.std.specs.Prelude.{codes}
use Rattle.client_script.specs.declared.command.TransactionCommand.TheVariants as transaction_line
use Rattle.client_session.proofs.OpenTurns.{end_refused, ended_turns, nothing_refused}
use Rattle.client_session.proofs.open.Open.end.Goals as goal

pub returns-in-Reading-clause-turn : goal.returns-in-Reading-clause-turn
returns-in-Reading-clause-turn c = ended_turns c.args.self c.in-Reading.pass c.in-Reading.field-1 c.in-Reading.is

pub returns-in-Nothing-clause-turn : goal.returns-in-Nothing-clause-turn
returns-in-Nothing-clause-turn c = nothing_refused transaction_line.End c.args.self c.in-Nothing.pass (codes "no-transaction") c.in-Nothing.is (λ v is. rw is refl)

pub returns-in_default-clause-turn : goal.returns-in_default-clause-turn
returns-in_default-clause-turn c = end_refused c.args.self c.requires.stands c.in_default.not-Nothing c.in_default.not-Reading
