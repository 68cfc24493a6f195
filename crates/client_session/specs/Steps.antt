-- What one step of a session does.
use Rattle.std.specs.Prelude.{◌≡◌, ◌⊎◌, ◌≤◌, ◌+◌, ◌++◌, ℕ, List, [], ◌∷◌}
use Rattle.std.specs.Prelude.{Some, Result, Ok, Err, false, length, slice_get, take, ⊤}
use Rattle.std.specs.declared.alloc.AllocError.{AllocError}
use Rattle.mdb_schema.specs.Guarded.{IsUnchanged}
use Rattle.mem_txn.specs.Checked.{LooksOnce}
use Rattle.mem_txn.specs.Database.{Caller}
use Rattle.mem_txn.specs.Transactions.{HasLost, HasWon}
use Rattle.client_script.specs.Client.{Client, Watch, at_start}
use Rattle.client_script.specs.Reply.{Reply, lines_text}
use Rattle.client_script.specs.Session.{Runs}
use Rattle.client_script.specs.Watching.{awaited_by}
use Rattle.client_script.specs.declared.command.Command.{Command}
use Rattle.client_script.specs.declared.command.Command.TheVariants as command
use Rattle.client_script.specs.declared.command.TransactionCommand.TheVariants as transaction_line
use Rattle.client_script.specs.declared.command.WatchesCommand.{WatchesCommand}
use Rattle.client_script.specs.declared.command.WatchesCommand.TheVariants as watches_line
use Rattle.client_script.specs.declared.line.Line.{Line}
use Rattle.client_session.specs.Answered.{HasAnswered, IsLater}
use Rattle.client_session.specs.Progress.{Progress}
use Rattle.client_session.specs.declared.stepped.Stepped.{Stepped}
use Rattle.client_session.specs.declared.stepped.Stepped.TheVariants as stepped

-- this line of the script is the next, and has this number in the client's file
abbrev pub IsNext : Progress → Line → ℕ → Type 0
IsNext s l number = (slice_get s.script s.answered ≡ Some l) × (number ≡ l.number)

-- it was looked at once, or not at all: then no count was read
abbrev pub IsOneLook : Caller → Caller → Type 0
IsOneLook old new = (new.counts ≡ old.counts) ⊎ LooksOnce old new

-- A line that is answered has done what may have to wait once, and not again: at `write` no try has
-- found the turn taken, for there was none, or it found the turn free; at a wait there was one look.
abbrev pub HasDoneOnce : Command → Caller → Caller → Type 0
HasDoneOnce (command.Transaction transaction_line.Write) old new =
    (new.tries ≡ old.tries) ⊎ HasWon old new
HasDoneOnce (command.Watches (watches_line.Wait set)) old new = IsOneLook old new
HasDoneOnce (command.Watches (watches_line.WaitUntil set until)) old new = IsOneLook old new
HasDoneOnce c old new = ⊤

-- ---- waits that find nothing

-- a watch was quiet at one of the looks of a call: after a count of commits that the pass read in
-- it
pub record WasQuiet (old new : Caller) (w : Watch) : Type 0 where
  pub at : ℕ
  pub earlier : List ℕ
  pub further : List ℕ
  pub counts : new.counts ≡ old.counts ++ (earlier ++ at ∷ further)
  pub later : length old.seen ≤ at
  pub seen : at ≤ length new.seen
  pub quiet : IsUnchanged new.schema new.seen new.number w.query w.number at

abbrev pub WereQuiet : Caller → Caller → List Watch → Type 0
WereQuiet old new [] = ⊤
WereQuiet old new (w ∷ ws) = WasQuiet old new w × WereQuiet old new ws

-- each watch that the line waits for was quiet
pub record HasStayedQuiet (old new : Caller) (v : Client) (w : WatchesCommand) : Type 0 where
  pub awaited : List Watch
  pub judged : awaited_by w v ≡ Ok awaited
  pub quiet : WereQuiet old new awaited

-- The line is a wait, and one look has found all that it waits for quiet, by what the client knows
-- after the replies whose text is kept. Nothing else was done.
pub record Waits (old new : Progress) (w : WatchesCommand) : Type 0 where
  pub replies : List Reply
  pub client : Client
  pub runs : let p = old.caller in
      Runs p.schema p.seen p.number at_start (take old.answered old.script) replies client
  pub written : old.text ≡ lines_text (take old.answered old.script) replies
  pub stayed : HasStayedQuiet old.caller new.caller client w
  pub look : LooksOnce old.caller new.caller
  pub later : IsLater old.caller new.caller
  pub tries : new.caller.tries ≡ old.caller.tries
  pub own : new.caller.own ≡ old.caller.own

-- a line is still to do: `write`, whose one try found the number of another of so many callers, or
-- a wait that has found nothing
abbrev pub IsBlocked : ℕ → Progress → Progress → Command → Type 0
IsBlocked callers old new (command.Transaction transaction_line.Write) =
    HasLost callers old.caller new.caller
IsBlocked callers old new (command.Watches w) = Waits old new w
IsBlocked callers old new c = ⊥

-- The next line is answered. Or it is still to do, and all else is as before. Or no line is left, and
-- what is open is aborted. After want of memory the answers are as before.
abbrev pub AnswersStep : ℕ → Progress → Progress → Result Stepped AllocError → Type 0
AnswersStep callers old new (Ok (stepped.Answered line)) =
    (l : Line) × IsNext old l line × (new.answered ≡ old.answered + 1) × HasAnswered old new
    × HasDoneOnce l.command old.caller new.caller
AnswersStep callers old new (Ok (stepped.Blocked line)) =
    (l : Line) × IsNext old l line × IsBlocked callers old new l.command
    × (new ≡ record old { caller = new.caller })
AnswersStep callers old new (Ok stepped.Ended) =
    (old.answered ≡ length old.script) × (new ≡ record old { writing = false })
AnswersStep callers old new (Err e) =
    (new.answered ≡ old.answered) × (new.text ≡ old.text) × (new.commits ≡ old.commits)
