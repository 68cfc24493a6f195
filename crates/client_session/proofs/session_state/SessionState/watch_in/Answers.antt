use Rattle.std.proofs.Common.{rules, refl, Some, None}
use Rattle.client_session.specs.declared.any_snapshot.AnySnapshot.TheVariants as kinds
use Rattle.client_session.proofs.WatchTurns.{asks_snapshot, asks_unkept}
use Rattle.client_session.proofs.session_state.SessionState.watch_in.Goals as goal

pub returns-in-Some-Committed-clause-turn : goal.returns-in-Some-Committed-clause-turn
returns-in-Some-Committed-clause-turn c = asks_snapshot c.args.self.now c.ask.new.self c.args.name.now c.args.snapshot.now c.args.query.now (kinds.Committed c.in-Some-Committed.txn) (Some c.in-Some-Committed.txn) c.ask.result (search (rules)) refl c.ask.ensures

pub returns-in-Some-Uncommitted-clause-turn : goal.returns-in-Some-Uncommitted-clause-turn
returns-in-Some-Uncommitted-clause-turn c = asks_snapshot c.args.self.now c.ask-in-Some-Uncommitted.new.self c.args.name.now c.args.snapshot.now c.args.query.now (kinds.Uncommitted c.in-Some-Uncommitted.field-0-0) None c.ask-in-Some-Uncommitted.result (search (rules)) refl c.ask-in-Some-Uncommitted.ensures

pub returns-in-None-clause-turn : goal.returns-in-None-clause-turn
returns-in-None-clause-turn c = asks_unkept c.args.self.now c.args.name.now c.args.snapshot.now c.args.query.now (search (rules))
