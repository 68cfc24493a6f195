use Rattle.client_session.proofs.StateTurns.{present_snapshot}
use Rattle.client_session.specs.inner.OpenView.{caller_of}
use Rattle.client_session.proofs.session_state.SessionState.keep_new.Goals as goal

pub returns-clause-turn : goal.returns-clause-turn
returns-clause-turn c =
    let p = c.in_ok-present.present in
    present_snapshot c.args.self.now c.present.new.self c.keep_present.new.snapshots c.args.name.now p.0 (caller_of c.args.self.now.«open»).schema p.1 c.keep_present.result c.in_ok-present.ensures.present c.present.ensures.caller c.present.ensures.transaction c.present.ensures.stands c.requires.free c.keep_present.ensures.reply c.keep_present.ensures.kept
