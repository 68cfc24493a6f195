use Rattle.client_script.specs.declared.command.TransactionCommand.TheVariants as transaction_line
use Rattle.client_session.proofs.OpenTurns.{told_once, told_pair}
use Rattle.client_session.proofs.ToldCounts.{abort_tells, commit_tells, end_tells}
use Rattle.client_session.proofs.open.Open.turn.Goals as goal

pub returns-in-Commit-clause-turn : goal.returns-in-Commit-clause-turn
returns-in-Commit-clause-turn g c = told_once transaction_line.Commit c.args.command.now c.args.self c.commit.result.0 _ c.commit.result.1 c.in-Commit.is commit_tells c.requires.stands c.commit.ensures.turn

pub returns-in-End-clause-turn : goal.returns-in-End-clause-turn
returns-in-End-clause-turn g c = told_pair transaction_line.End c.args.command.now c.args.self _ c.end.result c.told.result c.in-End.is end_tells c.requires.stands c.told.ensures c.end.ensures.turn

pub returns-in-Abort-clause-turn : goal.returns-in-Abort-clause-turn
returns-in-Abort-clause-turn g c = told_pair transaction_line.Abort c.args.command.now c.args.self _ c.abort.result c.told-in-Abort.result c.in-Abort.is abort_tells c.requires.stands c.told-in-Abort.ensures c.abort.ensures.turn
