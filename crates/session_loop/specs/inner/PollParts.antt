-- The parts of a poll.
use Rattle.std.specs.Prelude.{◌≡◌, ℕ, List, Option, None, Result, Ok, Err}
use Rattle.std.specs.declared.alloc.AllocError.{AllocError}
use Rattle.client_session.specs.Progress.{Progress}
use Rattle.client_session.specs.Steps.{AnswersStep}
use Rattle.client_session.specs.Waiting.{TellsWait}
use Rattle.client_session.specs.declared.stepped.Stepped.TheVariants as stepped
use Rattle.session_loop.specs.Polls.{KeepsAnswers, NotesAll}
use Rattle.session_loop.specs.declared.polled.Polled.{Polled}
use Rattle.session_loop.specs.declared.polled.Polled.TheVariants as polled
use Rattle.watch_word.specs.Logs.{Cell}

-- the second step, where a line is left
abbrev pub StepsOn : ℕ → Progress → Progress → Result Polled AllocError → Type 0
StepsOn callers mid new (Ok (polled.Answered line)) =
    AnswersStep callers mid new (Ok (stepped.Answered line))
StepsOn callers mid new (Ok (polled.Parked line)) =
    AnswersStep callers mid new (Ok (stepped.Blocked line))
StepsOn callers mid new (Ok (polled.Held line)) = ⊥
StepsOn callers mid new (Ok polled.Ended) = ⊥
StepsOn callers mid new (Err e) = KeepsAnswers mid new

-- the notes and the second step, behind a first one that was blocked at this line; or nothing, where
-- the session tells that it waits for nothing
abbrev pub PollsOn : ℕ → ℕ → Progress → Progress → Option (List Cell) → Option (List Cell)
    → Result Polled AllocError → Type 0
PollsOn callers line mid new before after (Ok (polled.Answered answered)) =
    NotesAll mid before after × AnswersStep callers mid new (Ok (stepped.Answered answered))
PollsOn callers line mid new before after (Ok (polled.Parked parked)) =
    NotesAll mid before after × AnswersStep callers mid new (Ok (stepped.Blocked parked))
PollsOn callers line mid new before after (Ok (polled.Held held)) =
    (held ≡ line) × (after ≡ before) × (new ≡ mid) × TellsWait mid None
PollsOn callers line mid new before after (Ok polled.Ended) = ⊥
PollsOn callers line mid new before after (Err e) = KeepsAnswers mid new
