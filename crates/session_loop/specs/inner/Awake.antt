-- Sessions that can go on, by a look at the log or at what was fired since.
use Rattle.std.specs.Prelude.{◌≡◌, ◌≤◌, ◌^◌, ℕ, true, List, Option, None, Some, length, slice_get}
use Rattle.client_session.specs.Progress.{Progress}
use Rattle.client_session.specs.Waiting.{TellsWait, WaitsFor}
use Rattle.mem_txn.specs.CellHistory.{HasFirings}
use Rattle.mem_txn.specs.Database.{Caller, cells_seen}
use Rattle.mem_txn.specs.Held.{HeldWatch}
use Rattle.session_loop.specs.declared.task.State.{State}
use Rattle.session_loop.specs.declared.task.State.TheVariants as state
use Rattle.session_loop.specs.declared.task.Task.{Task}
use Rattle.session_loop.specs.inner.Rest.{commits_told}
use Rattle.watch_future.specs.Cells.{cells_of, has_any}
use Rattle.watch_set.specs.Checks.{with_until}
use Rattle.watch_set.specs.Members.{Member, watches_of}
use Rattle.watch_word.specs.Logs.{IsLater, Log}

-- one of these watches has fired, by now
pub record HasOneFired (log : Log) (hs : List HeldWatch) : Type 0 where
  pub now : Log
  pub later : IsLater log now
  pub fired : has_any (cells_of hs) now ≡ true

-- the session waits for nothing, or for watches of which one has fired
pub data IsAwake (log : Log) (s : Progress) : Type 0 where
  waits_for_nothing : TellsWait s None → IsAwake log s
  woken : (members : List Member) (until : Option HeldWatch) → WaitsFor s members until
      → HasOneFired log (with_until (watches_of members) until) → IsAwake log s

-- it is polled in the next round, or it is parked, but awake
pub data CanGoOn (log : Log) (s : Progress) (x : State) : Type 0 where
  ready : x ≡ state.Ready → CanGoOn log s x
  awake : IsAwake log s → CanGoOn log s x

-- one of them can
pub record OneCanGoOn (log : Log) (ss : List Progress) (ts : List Task) : Type 0 where
  pub at : ℕ
  pub session : Progress
  pub task : Task
  pub session_there : slice_get ss at ≡ Some session
  pub task_there : slice_get ts at ≡ Some task
  pub goes_on : CanGoOn log session task.state

-- What a pass has found that looked, and found no rest: the sessions have told another number of
-- commits than it has seen, or more than a `u64` can count; or one of them can go on.
pub data FindsOneAwake (p : Caller) (ss : List Progress) (ts : List Task) : Type 0 where
  many : 2 ^ 64 ≤ commits_told ss → FindsOneAwake p ss ts
  behind : (length p.seen ≡ commits_told ss → ⊥) → FindsOneAwake p ss ts
  goes_on : (log : Log) → HasFirings (cells_seen p) (length p.seen) log → OneCanGoOn log ss ts
      → FindsOneAwake p ss ts
