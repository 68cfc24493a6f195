-- What a poll does behind a first step that was blocked.
use Rattle.std.proofs.Common.{◌≡◌, refl, ap, sym, ◌∙◌, subst, inr, ℕ, List, Option, Some, None, Result, Ok, Err, slice_get}
use Rattle.std.specs.declared.alloc.AllocError.{AllocError}
use Rattle.client_script.specs.declared.command.Command.{Command}
use Rattle.client_script.specs.declared.command.Command.TheVariants as command
use Rattle.client_script.specs.declared.line.Line.{Line}
use Rattle.client_session.specs.Progress.{Progress}
use Rattle.client_session.specs.Steps.{AnswersStep, IsNext}
use Rattle.client_session.specs.Waiting.{TellsWait, WaitsFor, awaited_at, client_at}
use Rattle.client_session.specs.declared.stepped.Stepped.TheVariants as stepped
use Rattle.mem_txn.specs.Held.{HeldWatch}
use Rattle.session_loop.specs.Polls.{AnswersPoll, IsAtWait, KeepsAnswers}
use Rattle.session_loop.specs.declared.polled.Polled.{Polled}
use Rattle.session_loop.specs.declared.polled.Polled.TheVariants as polled
use Rattle.session_loop.specs.inner.PollParts.{PollsOn}
use Rattle.watch_set.specs.Members.{Member}
use Rattle.watch_word.specs.Logs.{Cell}

-- a session that waits for watches is at a wait
at_wait : (s : Progress) (members : List Member) (until : Option HeldWatch) → WaitsFor s members until → IsAtWait s
at_wait s members until w = by_command w.at.line.command refl w.judged
  where
    by_command : (c : Command) → w.at.line.command ≡ c → awaited_at c (client_at s w.at) ≡ Ok w.awaited → IsAtWait s
    by_command (command.Transaction x) is judged = cc
    by_command (command.Write x) is judged = cc
    by_command (command.Defer x) is judged = cc
    by_command (command.Ask x) is judged = cc
    by_command (command.Name x) is judged = cc
    by_command (command.Size x) is judged = cc
    by_command (command.Watches x) is judged = record { line = w.at.line; next = w.at.next; wait = x; is = is }

module _ (callers line : ℕ) (old mid : Progress) (first : AnswersStep callers old mid (Ok (stepped.Blocked line))) where
  same : mid ≡ record old { caller = mid.caller }
  same = first.3

  -- the next line is as before
  there : slice_get mid.script mid.answered ≡ Some first.0
  there = ap (λ (s : Progress). slice_get s.script s.answered) same ∙ first.1.0

  line_is : (l : Line) (n : ℕ) → IsNext mid l n → n ≡ line
  line_is l n next =
      let both : Some first.0 ≡ Some l = sym there ∙ next.0 in
      let is : first.0 ≡ l = cc in
      next.1 ∙ ap (λ (x : Line). x.number) (sym is) ∙ sym first.1.1

  at_line : (l : Line) (n : ℕ) → IsNext mid l n → AnswersStep callers old mid (Ok (stepped.Blocked n))
  at_line l n next = subst (λ (m : ℕ). AnswersStep callers old mid (Ok (stepped.Blocked m))) (sym (line_is l n next)) first

  answers_kept : (new : Progress) → KeepsAnswers mid new → KeepsAnswers old new
  answers_kept new kept = record {
    answered = kept.answered ∙ ap (λ (s : Progress). s.answered) same;
    text = kept.text ∙ ap (λ (s : Progress). s.text) same;
    commits = kept.commits ∙ ap (λ (s : Progress). s.commits) same;
  }

  pub behind_blocked : (new : Progress) (before after : Option (List Cell)) (r : Result Polled AllocError) → PollsOn callers line mid new before after r → AnswersPoll callers old new before after r
  behind_blocked new before after (Ok (polled.Answered n)) (notes, again) = inr (record {
    mid = mid;
    blocked = at_line again.0 n again.1;
    wait = at_wait mid notes.members notes.until notes.waits;
    notes = notes;
    again = again;
  })
  behind_blocked new before after (Ok (polled.Parked n)) (notes, again) = record {
    mid = mid;
    blocked = at_line again.0 n again.1;
    wait = at_wait mid notes.members notes.until notes.waits;
    notes = notes;
    again = again;
  }
  behind_blocked new before after (Ok (polled.Held n)) (is, none, stays, waits) = (
    none,
    subst (λ (s : Progress). AnswersStep callers old s (Ok (stepped.Blocked n))) (sym stays)
        (subst (λ (m : ℕ). AnswersStep callers old mid (Ok (stepped.Blocked m))) (sym is) first),
    subst (λ (s : Progress). TellsWait s None) (sym stays) waits,
  )
  behind_blocked new before after (Ok polled.Ended) none = absurd none
  behind_blocked new before after (Err e) kept = answers_kept new kept
