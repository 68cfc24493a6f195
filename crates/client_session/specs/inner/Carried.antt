-- What was carried out of a script so far.
use Rattle.std.specs.Prelude.{◌≡◌, ◌+◌, ◌++◌, ℕ, Bool, true, false, List, [], ◌∷◌}
use Rattle.std.specs.Prelude.{Some, Result, Ok, Err, length, map, take, ⊤}
use Rattle.std.specs.declared.alloc.AllocError.{AllocError}
use Rattle.mdb_schema.specs.History.{Commit}
use Rattle.mem_txn.specs.Database.{Caller, cells_seen}
use Rattle.client_session.specs.Cells.{RunsByCells}
use Rattle.client_session.specs.Counts.{AreAmong, counts_told}
use Rattle.client_script.specs.Client.{Client, at_start}
use Rattle.client_script.specs.Legal.{number_printed, printed}
use Rattle.client_script.specs.Reply.{Reply, line_text, lines_text}
use Rattle.client_script.specs.declared.command.Command.{Command}
use Rattle.client_script.specs.declared.command.Command.TheVariants as command
use Rattle.client_script.specs.declared.command.TransactionCommand.TheVariants as transaction_line
use Rattle.client_script.specs.declared.line.Line.{Line}
use Rattle.client_session.specs.Answered.{AreMade, AreRising, IsLater, IsUntold, commit_at}
use Rattle.client_session.specs.declared.session_state.SessionState.{SessionState}
use Rattle.client_session.specs.Steps.{HasDoneOnce}
use Rattle.client_session.specs.inner.StateView.{Follows, IsHeldUp, LooksAndReplies}
use Rattle.client_session.specs.inner.OpenView.{caller_of}
use Rattle.client_session.specs.inner.Transcript.{Transcript}

-- a line was answered, and its answer was added
pub record AnswersLine (l : Line) (old new : SessionState) (before after : Transcript) : Type 0 where
  pub reply : Reply
  pub replies : LooksAndReplies l.command old new reply
  pub written : after.text ≡ before.text ++ line_text l.number reply
  pub counted : after.commits ≡ before.commits + length (number_printed reply)

-- the same of a step; where the line wasn't answered, nothing was added
abbrev pub StepsLine : ℕ → Line → SessionState → SessionState → Transcript → Transcript → Result Bool AllocError → Type 0
StepsLine callers l old new before after (Ok true) = AnswersLine l old new before after
    × HasDoneOnce l.command (caller_of old.«open») (caller_of new.«open»)
StepsLine callers l old new before after (Ok false) = IsHeldUp callers l.command old new
    × (after ≡ before)
StepsLine callers l old new before after (Err e) = ⊤

-- the commits that one line makes: at most one, and one only where it is `commit`
abbrev pub IsOfCommit : Command → List Commit → Type 0
IsOfCommit c [] = ⊤
IsOfCommit c (x ∷ []) = c ≡ command.Transaction transaction_line.Commit
IsOfCommit c (x ∷ y ∷ cs) = ⊥

-- a line has made them, whether they are told or not
pub record Makes (c : Command) (old new : Caller) : Type 0 where
  pub made : List Commit
  pub own : new.own ≡ old.own ++ made
  pub one : IsOfCommit c made

-- no more than that was made at a line that found no memory
abbrev pub StopsLine : Line → SessionState → Caller → Type 0
StopsLine l old new = (v : Client) → Follows old v → Makes l.command (caller_of old.«open») new

-- replies to lines, whose text is there; the state has what the client knows then
pub record SoFar (script : List Line) (at : ℕ) (d : SessionState) (t : Transcript) : Type 0 where
  pub replies : List Reply
  pub client : Client
  pub runs : let p = caller_of d.«open» in
      RunsByCells (cells_seen p) p.number at_start (take at script) replies client
  pub follows : Follows d client
  pub written : t.text ≡ lines_text (take at script) replies
  pub counted : t.commits ≡ length (printed replies)
  pub made : AreMade (caller_of d.«open») replies

-- from a pass and the replies before it on, the lines were answered
pub record Carried (pass : Caller) (before : List Reply) (done : List Line) (d : SessionState)
    (t : Transcript) : Type 0 where
  pub replies : List Reply
  pub client : Client
  pub runs : RunsByCells (cells_seen (caller_of d.«open»)) pass.number at_start done
      (before ++ replies) client
  pub follows : Follows d client
  pub written : t.text ≡ lines_text done (before ++ replies)
  pub counted : t.commits ≡ length (printed (before ++ replies))
  pub later : IsLater pass (caller_of d.«open»)
  pub made : List Commit
  pub own : (caller_of d.«open»).own ≡ pass.own ++ made
  pub told : map (commit_at (caller_of d.«open»).seen) (printed replies) ≡ map Some made
  pub rising : AreRising (length pass.seen) (printed replies) (length (caller_of d.«open»).seen)
  pub read : List ℕ
  pub counts : (caller_of d.«open»).counts ≡ pass.counts ++ read
  pub loads : AreAmong (counts_told replies) read

-- the replies before a pass, to some first lines of a script
pub record Before (pass : Caller) (script : List Line) (from : ℕ) (t : Transcript) : Type 0 where
  pub replies : List Reply
  pub client : Client
  pub runs : RunsByCells (cells_seen pass) pass.number at_start (take from script) replies client
  pub written : t.text ≡ lines_text (take from script) replies
  pub counted : t.commits ≡ length (printed replies)
  pub made : AreMade pass replies

-- from a place of a script on to another
pub record CarriedOn (pass : Caller) (script : List Line) (from to : ℕ) (old : Transcript)
    (d : SessionState) (t : Transcript) : Type 0 where
  pub before : Before pass script from old
  pub carried : Carried pass before.replies (take to script) d t

-- so much is there whatever comes then, when the pass is back
pub record Adds (pass new : Caller) (before : List Reply) (done : List Line) (t : Transcript) : Type 0
  where
    pub replies : List Reply
    pub client : Client
    pub runs : RunsByCells (cells_seen new) pass.number at_start done (before ++ replies) client
    pub written : t.text ≡ lines_text done (before ++ replies)
    pub counted : t.commits ≡ length (printed (before ++ replies))
    pub later : IsLater pass new
    pub read : List ℕ
    pub counts : new.counts ≡ pass.counts ++ read
    pub loads : AreAmong (counts_told replies) read

-- the same from a place of a script on to another
pub record AddsSome (pass new : Caller) (script : List Line) (from to : ℕ) (old t : Transcript)
    : Type 0 where
  pub before : Before pass script from old
  pub adds : Adds pass new before.replies (take to script) t

-- and the commits that the pass has made are told
pub record CarriesOut (pass new : Caller) (script : List Line) (from to : ℕ) (old t : Transcript)
    : Type 0 where
  pub some : AddsSome pass new script from to old t
  pub made : List Commit
  pub own : new.own ≡ pass.own ++ made
  pub told : map (commit_at new.seen) (printed some.adds.replies) ≡ map Some made
  pub rising : AreRising (length pass.seen) (printed some.adds.replies) (length new.seen)

-- the same where the next line found no memory: the commit that it has made, if any, isn't told
pub record Stops (pass new : Caller) (script : List Line) (from to : ℕ) (old t : Transcript) : Type 0
  where
    pub some : AddsSome pass new script from to old t
    pub made : List Commit
    pub untold : List Commit
    pub own : new.own ≡ pass.own ++ (made ++ untold)
    pub told : map (commit_at new.seen) (printed some.adds.replies) ≡ map Some made
    pub rising : AreRising (length pass.seen) (printed some.adds.replies) (length new.seen)
    pub last : IsUntold script to untold
