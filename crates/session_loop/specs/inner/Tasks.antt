-- A session in the loop, and what the loop keeps beside it.
use Rattle.std.specs.Prelude.{◌≡◌, ℕ, Bool, true, false, List, [], ◌∷◌, length, map, slice_get, Some, ⊤}
use Rattle.client_script.specs.declared.line.Line.{Line}
use Rattle.client_session.specs.Progress.{Progress}
use Rattle.mem_txn.specs.Database.{Database, IsOf}
use Rattle.session_loop.specs.Polls.{HasTold}
use Rattle.session_loop.specs.declared.polled.Polled.{Polled}
use Rattle.session_loop.specs.declared.polled.Polled.TheVariants as polled
use Rattle.session_loop.specs.declared.task.State.{State}
use Rattle.session_loop.specs.declared.task.State.TheVariants as state
use Rattle.session_loop.specs.declared.task.Task.{Task}
use Rattle.session_loop.specs.inner.Rest.{IsRunning}
use Rattle.watch_future.specs.Cells.{AreOfBook}

-- ---- how a session stands

-- after a poll
abbrev pub state_after : Polled → State
state_after (polled.Answered line) = state.Ready
state_after (polled.Parked line) = state.Parked line
state_after (polled.Held line) = state.Ready
state_after polled.Ended = state.Ended

-- whether it is polled in a round, where a watch that was noted has moved, or hasn't
abbrev pub is_due : State → Bool → Bool
is_due state.Ready moved = true
is_due (state.Parked line) moved = moved
is_due state.Ended moved = false

-- its next line has this number
abbrev pub IsAtLine : Progress → ℕ → Type 0
IsAtLine s number = (l : Line) × (slice_get s.script s.answered ≡ Some l) × (number ≡ l.number)

-- no line is left, and the answers are told
pub record IsDone (s : Progress) : Type 0 where
  pub all : s.answered ≡ length s.script
  pub told : HasTold s

-- what is known of it then
abbrev pub StandsAt : Progress → State → Type 0
StandsAt s state.Ready = ⊤
StandsAt s (state.Parked line) = IsAtLine s line
StandsAt s state.Ended = IsDone s

-- ---- tasks

-- the task of a session that hasn't been polled
abbrev pub new_task : Task
new_task = record { state = state.Ready; notes = [] }

abbrev pub states_of : List Task → List State
states_of tasks = map (λ (t : Task). t.state) tasks

-- no line is left
abbrev pub is_ended : State → Bool
is_ended state.Ready = false
is_ended (state.Parked line) = false
is_ended state.Ended = true

abbrev pub has_ended : Task → Bool
has_ended t = is_ended t.state

-- ---- sessions with their tasks

-- a session of the database, which always found memory, and has told each commit of its pass
pub record IsUnspent (db : Database) (s : Progress) : Type 0 where
  pub own : IsOf db s.caller
  pub running : IsRunning s.script s

abbrev pub AreUnspent : Database → List Progress → Type 0
AreUnspent db [] = ⊤
AreUnspent db (s ∷ ss) = IsUnspent db s × AreUnspent db ss

-- the same with its task, whose notes are of the database's cells
pub record IsInLoop (db : Database) (s : Progress) (t : Task) : Type 0 where
  pub unspent : IsUnspent db s
  pub stands : StandsAt s t.state
  pub noted : AreOfBook db.book t.notes

abbrev pub AreInLoop : Database → List Progress → List Task → Type 0
AreInLoop db [] [] = ⊤
AreInLoop db [] (t ∷ ts) = ⊥
AreInLoop db (s ∷ ss) [] = ⊥
AreInLoop db (s ∷ ss) (t ∷ ts) = IsInLoop db s t × AreInLoop db ss ts

abbrev pub scripts_of : List Progress → List (List Line)
scripts_of ss = map (λ (s : Progress). s.script) ss
