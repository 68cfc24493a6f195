-- How the loop ends.
use Rattle.std.specs.Prelude.{◌≡◌, ◌<◌, ◌⊎◌, ◌++◌, ℕ, List, [], ◌∷◌, Option, Some, None}
use Rattle.client_script.specs.Legal.{Legal}
use Rattle.client_script.specs.Stuck.{Stuck, stuck_text}
use Rattle.client_script.specs.declared.line.Line.{Line}
use Rattle.client_session.specs.Answered.{IsLater}
use Rattle.client_session.specs.Clients.{headed}
use Rattle.client_session.specs.Progress.{Progress}
use Rattle.mdb_datum.specs.Bytes.{Bytes}
use Rattle.mdb_schema.specs.Schema.{DbSchema}
use Rattle.mem_txn.specs.CellHistory.{AreComplete, WatchesHold}
use Rattle.mem_txn.specs.Checked.{HeldLonger}
use Rattle.mem_txn.specs.Database.{Caller, Callers, Database, IsOf, cells_seen}
use Rattle.session_loop.specs.declared.stop.Stop as code
use Rattle.session_loop.specs.inner.Halted.{stop_of}
use Rattle.session_loop.specs.inner.Rest.{AreDone, AreRunning, FindsRest, first_left}
use Rattle.session_loop.specs.inner.Tasks.{scripts_of}

-- ---- the loop's own pass

-- it is the one that no session has
pub record HasLoopPass (db : Database) (passes : Callers) : Type 0 where
  pub pass : Caller
  pub alone : passes.passes ≡ pass ∷ []
  pub own : IsOf db pass
  pub room : 0 < passes.made

-- a pass of the same caller, which has seen as much or more, and has made no commit
pub record IsIdle (old new : Caller) : Type 0 where
  pub later : IsLater old new
  pub own : new.own ≡ old.own

-- the loop's pass is there again, and has made no commit
pub record KeepsPass (old new : Callers) : Type 0 where
  pub before : Caller
  pub after : Caller
  pub was : old.passes ≡ before ∷ []
  pub is : new.passes ≡ after ∷ []
  pub idle : IsIdle before after
  pub made : new.made ≡ old.made

-- ---- the sessions

-- The loop's pass has found all at rest; and what is known of every pass holds of it.
pub record AreFoundAtRest (ss : List Progress) (passes : Callers) : Type 0 where
  pub pass : Caller
  pub alone : passes.passes ≡ pass ∷ []
  pub rest : FindsRest pass ss
  pub complete : AreComplete (cells_seen pass)
  pub holds : WatchesHold (cells_seen pass)
  pub longer : HeldLonger pass

-- all lines are answered; or all sessions are at rest, and this is the first that has a line left
abbrev pub HaveStopped : List Progress → Callers → Option code.Stop → Type 0
HaveStopped ss passes None = AreDone ss
HaveStopped ss passes (Some stop) =
    AreFoundAtRest ss passes × (first_left 1 ss ≡ Some (stop_of stop))

-- ---- the output

-- these answers are written, and behind them who is stuck, if any is
abbrev pub IsWritten : Bytes → Option code.Stop → ℕ → Bytes → Type 0
IsWritten answers None status text = (status ≡ 0) × (text ≡ answers)
IsWritten answers (Some stop) status text =
    (status ≡ 9) × (text ≡ answers ++ stuck_text (stop_of stop))

-- the status and the text of sessions that have stopped
pub record IsOutputOf (names : List Bytes) (ss : List Progress) (passes : Callers) (status : ℕ)
    (text : Bytes) : Type 0 where
  pub running : AreRunning (scripts_of ss) ss
  pub stop : Option code.Stop
  pub stopped : HaveStopped ss passes stop
  pub written : IsWritten (headed 1 names ss) stop status text

-- the same by the definitions of outputs
abbrev pub IsDoneOrStuck : DbSchema → List Bytes → List (List Line) → ℕ → Bytes → Type 0
IsDoneOrStuck schema names scripts status text =
    ((status ≡ 0) × Legal schema names scripts text)
    ⊎ ((status ≡ 9) × Stuck schema names scripts text)
