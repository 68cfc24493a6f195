-- What a round does: each session in turn.
use Rattle.std.specs.Prelude.{◌≡◌, Bool, true, false, List, [], ◌∷◌, Option, Some, None, Ok}
use Rattle.client_session.specs.Progress.{Progress}
use Rattle.mem_txn.specs.Database.{Database}
use Rattle.session_loop.specs.Polls.{AnswersPoll}
use Rattle.session_loop.specs.declared.polled.Polled.{Polled}
use Rattle.session_loop.specs.declared.polled.Polled.TheVariants as polled
use Rattle.session_loop.specs.declared.round.Round.{Round}
use Rattle.session_loop.specs.declared.task.Task.{Task}
use Rattle.session_loop.specs.inner.Tasks.{is_due, state_after}
use Rattle.watch_future.specs.Cells.{has_any}
use Rattle.watch_word.specs.Logs.{Cell, Log}

-- a look at the watches that it noted finds that it is due, or isn't
abbrev pub IsFoundDue : Database → Task → Bool → Type 0
IsFoundDue db t due =
    (log : Log) × (log.book ≡ db.book) × (is_due t.state (has_any t.notes log) ≡ due)

-- a session was due, and was polled, with an empty list of notes
pub record WasPolled (db : Database) (old new : Progress) (before after : Task) (told : Polled) : Type 0 where
  pub due : IsFoundDue db before true
  pub noted : List Cell
  pub polled : AnswersPoll db.callers old new (Some []) (Some noted) (Ok told)
  pub state : after.state ≡ state_after told

-- it was polled; or it was let be, since it has ended, or is parked and no watch that it noted has
-- moved
abbrev pub TakesTurn : Database → Progress → Progress → Task → Task → Option Polled → Type 0
TakesTurn db old new before after (Some told) = WasPolled db old new before after told
TakesTurn db old new before after None =
    (new ≡ old) × (after ≡ before) × IsFoundDue db before false

abbrev pub no_polls : Round
no_polls = record { went_on = false; held = false }

-- a round with one more poll
abbrev pub round_with : Round → Polled → Round
round_with r (polled.Answered line) = record r { went_on = true }
round_with r (polled.Parked line) = r
round_with r (polled.Held line) = record r { held = true }
round_with r polled.Ended = record r { went_on = true }

abbrev pub round_after : Round → Option Polled → Round
round_after r None = r
round_after r (Some told) = round_with r told

-- each session took its turn, and the round came from the one to the other
abbrev pub TakeTurns : Database → List Progress → List Progress → List Task → List Task → Round → Round
    → Type 0
TakeTurns db [] [] [] [] first last = last ≡ first
TakeTurns db (s ∷ ss) (t ∷ ts) (before ∷ rest) (after ∷ others) first last =
    (told : Option Polled) × TakesTurn db s t before after told
    × TakeTurns db ss ts rest others (round_after first told) last
TakeTurns db ss ts tasks others first last = ⊥
