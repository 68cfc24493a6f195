use Rattle.std.proofs.Common.{subst, Ok}
use Rattle.client_session.specs.Steps.{AnswersStep}
use Rattle.client_session.specs.declared.stepped.Stepped.{Stepped}
use Rattle.session_loop.proofs.PollsBehind.{behind_blocked}
use Rattle.session_loop.proofs.poll.poll_session.Goals as goal

pub returns-in-Blocked-clause-polled : goal.returns-in-Blocked-clause-polled
returns-in-Blocked-clause-polled g c =
    let first = subst (λ (s : Stepped). AnswersStep c.args.db.now.callers c.args.session.now c.step.new.self (Ok s)) c.in-Blocked.is c.in_ok-line.ensures.stepped in
    behind_blocked c.args.db.now.callers c.in-Blocked.line c.args.session.now c.step.new.self first c.poll_blocked.new.session (g.N.Notes.noted c.args.notes.now) (g.N.Notes.noted c.poll_blocked.new.notes) c.poll_blocked.result c.poll_blocked.ensures.polled
