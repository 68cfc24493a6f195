use Rattle.std.proofs.Common.{rules, ◌≡◌, ◌∙◌, refl, sym, ap, subst, true, false, List, Some, Ok}
use Rattle.session_loop.specs.Polls.{AnswersPoll}
use Rattle.session_loop.specs.inner.Tasks.{is_due}
use Rattle.session_loop.proofs.PolledTasks.{polled_in_loop}
use Rattle.session_loop.proofs.task.Task.poll.Goals as goal
use Rattle.watch_word.specs.Logs.{Cell}

-- it has ended, or no watch that it noted has moved
pub returns-then-not-is_due-clause-turn : goal.returns-then-not-is_due-clause-turn
returns-then-not-is_due-clause-turn g c =
    let not_due : c.is_due.result ≡ false = search (rules) in
    let moved = c.any_moved-moved.ensures in
    let later = moved.later in
    let book = later.0 ∙ c.front.ensures in
    (refl, refl, (c.any_moved-moved.result.front, book, ap (is_due c.args.self.now.state) (sym moved.fired) ∙ sym c.is_due.ensures ∙ not_due))

pub returns-clause-turn : goal.returns-clause-turn
returns-clause-turn g c =
    let due : c.is_due.result ≡ true = search (rules) in
    let moved = c.any_moved-moved.ensures in
    let later = moved.later in
    let book = later.0 ∙ c.front.ensures in
    record {
      due = (c.any_moved-moved.result.front, book, ap (is_due c.args.self.now.state) (sym moved.fired) ∙ sym c.is_due.ensures ∙ due);
      noted = c.poll_session.new.notes;
      polled = subst (λ (cells : List Cell). AnswersPoll c.args.db.now.callers c.args.session.now c.poll_session.new.session (Some cells) (Some c.poll_session.new.notes) (Ok c.in_ok-polled.polled)) c.clear.ensures c.in_ok-polled.ensures.polled;
      state = c.after-self.ensures;
    }

pub returns-clause-inside : goal.returns-clause-inside
returns-clause-inside g c =
    let p = subst (λ (cells : List Cell). AnswersPoll c.args.db.now.callers c.args.session.now c.poll_session.new.session (Some cells) (Some c.poll_session.new.notes) (Ok c.in_ok-polled.polled)) c.clear.ensures c.in_ok-polled.ensures.polled in
    polled_in_loop c.args.db.now c.args.session.now c.poll_session.new.session c.poll_session.new.notes c.in_ok-polled.polled c.after-self.result c.requires.unspent c.in_ok-polled.ensures.goes_on c.in_ok-polled.ensures.told p c.after-self.ensures
