-- What a call of a session has done: the text of its answers is that of replies that are a session
-- in the history that its pass has seen, the commits that this call told are just those that its
-- pass has made in it, and the numbers that its looks tell (of transactions that begin, of checks
-- and of waits) are counts that its pass has read in it.
use Rattle.std.specs.Prelude.{◌≡◌, ◌-◌, ◌<◌, ◌≤◌, ◌++◌, ℕ, true, false, List, [], ◌∷◌, Option, Some, length, map, take, slice_get, ⊤}
use Rattle.std.specs.Prelude.{IsOk, Result}
use mathlib.Core.List.{IsPrefix}
use Rattle.mdb_schema.specs.History.{Commit, History}
use Rattle.watch_word.specs.Logs as log
use Rattle.mem_txn.specs.Database.{Caller, cells_seen}
use Rattle.client_session.specs.Cells.{SessionByCells}
use Rattle.client_session.specs.Counts.{AreAmong, counts_told}
use Rattle.client_script.specs.Legal.{printed}
use Rattle.client_script.specs.Reply.{Reply, lines_text}
use Rattle.client_script.specs.Session.{Session}
use Rattle.client_script.specs.declared.command.Command.TheVariants as command
use Rattle.client_script.specs.declared.command.TransactionCommand.TheVariants as transaction_line
use Rattle.client_script.specs.declared.line.Line.{Line}
use Rattle.client_session.specs.Progress.{Progress}

-- the pass of the same caller of the same database, which has seen, read and tried as much or more;
-- the trees after the commits, and the log of firings, are part of what is seen
pub record IsLater (old new : Caller) : Type 0 where
  pub number : new.number ≡ old.number
  pub database : new.database ≡ old.database
  pub schema : new.schema ≡ old.schema
  pub book : new.book ≡ old.book
  pub seen : IsPrefix old.seen new.seen
  pub trees : IsPrefix old.trees new.trees
  pub counts : IsPrefix old.counts new.counts
  pub tries : IsPrefix old.tries new.tries
  pub log : log.IsLater old.log new.log

-- the commit of a number, counted from 1
abbrev pub commit_at : History → ℕ → Option Commit
commit_at H m = slice_get H (m - 1)

-- each number is greater than the one before it, all are greater than low and at most high
abbrev pub AreRising : ℕ → List ℕ → ℕ → Type 0
AreRising low [] high = low ≤ high
AreRising low (m ∷ ms) high = (low < m) × AreRising m ms high

-- The commits that replies print are those that the pass has made since some time, each once and in
-- order, by their numbers in the list that it has seen.
pub record AreMade (p : Caller) (replies : List Reply) : Type 0 where
  pub earlier : List Commit
  pub made : List Commit
  pub own : p.own ≡ earlier ++ made
  pub told : map (commit_at p.seen) (printed replies) ≡ map Some made
  pub rising : AreRising 0 (printed replies) (length p.seen)

-- the replies to the lines that are answered: they are a session, also by what they tell of cells,
-- the text is theirs, and so many of them tell a commit; while memory was found, these commits are
-- the last that the pass has made
pub record AreTold (s : Progress) (replies : List Reply) : Type 0 where
  pub session : let p = s.caller in
      Session p.schema p.seen p.number (take s.answered s.script) replies
  pub cells : let p = s.caller in
      SessionByCells (cells_seen p) p.number (take s.answered s.script) replies
  pub written : s.text ≡ lines_text (take s.answered s.script) replies
  pub counted : s.commits ≡ length (printed replies)
  pub made : s.failed ≡ false → AreMade s.caller replies

-- A call has told these replies behind those that were told before. The numbers that they print for
-- transactions that begin, for checks and for waits are, in order, some of the counts that the pass
-- has read since.
pub record Tells (old new : Progress) : Type 0 where
  pub before : List Reply
  pub told_before : AreTold old before
  pub replies : List Reply
  pub told : AreTold new (before ++ replies)
  pub later : IsLater old.caller new.caller
  pub read : List ℕ
  pub counts : new.caller.counts ≡ old.caller.counts ++ read
  pub loads : AreAmong (counts_told replies) read

-- The same of a call that found memory. The commits that the pass has made since are told, each
-- once and in order, by their numbers in the list that it has seen, and no others are.
pub record HasAnswered (old new : Progress) : Type 0 where
  pub tells : Tells old new
  pub made : List Commit
  pub own : new.caller.own ≡ old.caller.own ++ made
  pub told : map (commit_at new.caller.seen) (printed tells.replies) ≡ map Some made
  pub rising : AreRising (length old.caller.seen) (printed tells.replies) (length new.caller.seen)

-- Commits that were made and aren't told: at most one, and one only where the script's line at this
-- place is `commit`, for whose answer no memory was found.
abbrev pub IsUntold : List Line → ℕ → List Commit → Type 0
IsUntold script at [] = ⊤
IsUntold script at (c ∷ []) =
    (l : Line) × (slice_get script at ≡ Some l)
    × (l.command ≡ command.Transaction transaction_line.Commit)
IsUntold script at (c ∷ d ∷ cs) = ⊥

-- The same of a call that found no memory, but the last commit may be untold: the line behind those
-- that are answered has made it. So nothing else that was open was committed; it was aborted.
pub record HasStopped (old new : Progress) : Type 0 where
  pub tells : Tells old new
  pub made : List Commit
  pub untold : List Commit
  pub own : new.caller.own ≡ old.caller.own ++ (made ++ untold)
  pub told : map (commit_at new.caller.seen) (printed tells.replies) ≡ map Some made
  pub rising : AreRising (length old.caller.seen) (printed tells.replies) (length new.caller.seen)
  pub last : IsUntold new.script new.answered untold
  pub closed : new.writing ≡ false

-- a session that found no memory, or has answered each line, stays as it is, but that what is open is
-- aborted
pub record StaysEnded {E : Type 0} (old new : Progress) (result : Result (Unit {0}) E) : Type 0 where
  pub failed : old.failed ≡ true → new ≡ old
  pub done : old.failed ≡ false → old.answered ≡ length old.script
      → IsOk result × (new ≡ record old { writing = false })
