use Rattle.std.proofs.Common.{rules}
use Rattle.client_session.specs.inner.SnapshotView.{snapshot_view}
use Rattle.client_session.proofs.StateTurns.{snapshot_answered, snapshot_refused}
use Rattle.client_session.proofs.session_state.SessionState.ask_snapshot.Goals as goal

pub returns-in-Err : goal.returns-in-Err
returns-in-Err c = snapshot_refused c.args.self.now c.args.name.now c.args.query.now (snapshot_view c.in-Some.kept.now) c.in-Err.error c.of_question.result c.refused.result c.requires.stands (search (rules)) c.in-Err.ensures c.of_question.ensures c.refused.ensures

pub returns-in-Ok : goal.returns-in-Ok
returns-in-Ok c = snapshot_answered c.args.self.now c.args.name.now c.args.query.now (snapshot_view c.in-Some.kept.now) c.in-Ok.answer c.requires.stands (search (rules)) c.in-Ok.ensures
