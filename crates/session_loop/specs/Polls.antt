-- What a poll of a session does: a step, and behind one that is blocked at a wait the notes of all
-- that the line waits for, and a second step.
use Rattle.std.specs.Prelude.{◌≡◌, ◌⊎◌, ℕ, false, List, Option, Some, None, Result, Ok, Err, slice_get}
use Rattle.std.specs.declared.alloc.AllocError.{AllocError}
use Rattle.client_script.specs.Reply.{Reply}
use Rattle.client_script.specs.declared.command.Command.TheVariants as command
use Rattle.client_script.specs.declared.command.WatchesCommand.{WatchesCommand}
use Rattle.client_script.specs.declared.line.Line.{Line}
use Rattle.client_session.specs.Answered.{AreTold, IsLater}
use Rattle.client_session.specs.Progress.{Progress}
use Rattle.client_session.specs.Steps.{AnswersStep}
use Rattle.client_session.specs.Waiting.{TellsWait, WaitsFor}
use Rattle.client_session.specs.declared.stepped.Stepped.{Stepped}
use Rattle.client_session.specs.declared.stepped.Stepped.TheVariants as stepped
use Rattle.mem_txn.specs.Held.{HeldWatch}
use Rattle.session_loop.specs.declared.polled.Polled.{Polled}
use Rattle.session_loop.specs.declared.polled.Polled.TheVariants as polled
use Rattle.watch_future.specs.Cells.{cells_awaited, with_cells}
use Rattle.watch_set.specs.Members.{Member}
use Rattle.watch_word.specs.Logs.{Cell}

-- a session's next line is a wait
pub record IsAtWait (s : Progress) : Type 0 where
  pub line : Line
  pub next : slice_get s.script s.answered ≡ Some line
  pub wait : WatchesCommand
  pub is : line.command ≡ command.Watches wait

-- each watch that a session tells that it waits for was noted, behind those that were noted before
pub record NotesAll (s : Progress) (before after : Option (List Cell)) : Type 0 where
  pub members : List Member
  pub until : Option HeldWatch
  pub waits : WaitsFor s members until
  pub noted : after ≡ with_cells (cells_awaited members until) before

-- A step was blocked at this line, which is a wait. Then all was noted, and a second step did this.
pub record StepsAgain (callers : ℕ) (old new : Progress) (line : ℕ) (before after : Option (List Cell))
    (told : Stepped) : Type 0 where
  pub mid : Progress
  pub blocked : AnswersStep callers old mid (Ok (stepped.Blocked line))
  pub wait : IsAtWait mid
  pub notes : NotesAll mid before after
  pub again : AnswersStep callers mid new (Ok told)

-- the session is the same, further on: its pass has seen and done as much or more
pub record GoesOn (old new : Progress) : Type 0 where
  pub script : new.script ≡ old.script
  pub later : IsLater old.caller new.caller

-- it has always found memory, and its answers are told
pub record HasTold (s : Progress) : Type 0 where
  pub found : s.failed ≡ false
  pub replies : List Reply
  pub told : AreTold s replies

-- the answers are as before
pub record KeepsAnswers (old new : Progress) : Type 0 where
  pub answered : new.answered ≡ old.answered
  pub text : new.text ≡ old.text
  pub commits : new.commits ≡ old.commits

-- A poll tells what its last step did. A line is parked exactly where a second step is blocked too:
-- at a wait, whose watches are all noted. It is held where the one step is blocked, and the session
-- then tells that it waits for nothing, as it does at `write`.
abbrev pub AnswersPoll : ℕ → Progress → Progress → Option (List Cell) → Option (List Cell)
    → Result Polled AllocError → Type 0
AnswersPoll callers old new before after (Ok (polled.Answered line)) =
    ((after ≡ before) × AnswersStep callers old new (Ok (stepped.Answered line)))
    ⊎ StepsAgain callers old new line before after (stepped.Answered line)
AnswersPoll callers old new before after (Ok (polled.Parked line)) =
    StepsAgain callers old new line before after (stepped.Blocked line)
AnswersPoll callers old new before after (Ok (polled.Held line)) =
    (after ≡ before) × AnswersStep callers old new (Ok (stepped.Blocked line)) × TellsWait new None
AnswersPoll callers old new before after (Ok polled.Ended) =
    (after ≡ before) × AnswersStep callers old new (Ok stepped.Ended)
AnswersPoll callers old new before after (Err e) = KeepsAnswers old new
