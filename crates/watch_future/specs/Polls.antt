-- Polls of sets.
use Rattle.std.specs.Prelude.{◌≡◌, ◌<◌, ◌⊎◌, List, Option, None, Some, Result, Ok, Err, IfSome, length}
use Rattle.std.specs.declared.alloc.AllocError.{AllocError}
use Rattle.futures.specs.declared.task.Poll.{Poll}
use Rattle.futures.specs.declared.task.Poll.TheVariants.{Ready, Pending}
use Rattle.mem_txn.specs.Checked.{IsHeldBy}
use Rattle.mem_txn.specs.Database.{Caller, Database, IsOf}
use Rattle.mem_txn.specs.Held.{HeldWatch}
use Rattle.watch_set.specs.Checks.{AnswersLook, OnlyLooks}
use Rattle.watch_set.specs.Members.{AreHeldBy, Member, watches_of}
use Rattle.watch_set.specs.declared.woken.Woken.{Woken}
use Rattle.watch_word.specs.Logs.{Cell}
use Rattle.watch_future.specs.Cells.{ArePartlyNoted, with_cells}

-- the set has members, and the pass is one of the database's and holds the watch of each, and what
-- cancels
pub record CanPoll (db : Database) (p : Caller) (ms : List Member) (until : Option HeldWatch) : Type 0 where
  pub some : 0 < length ms
  pub own : IsOf db p
  pub held : AreHeldBy p (watches_of ms)
  pub cancel : IfSome until (IsHeldBy p)

-- the pass is as before, or has looked and done nothing else
abbrev pub MayHaveLooked : Caller → Caller → Type 0
MayHaveLooked old new = (new ≡ old) ⊎ OnlyLooks old new

-- a poll that has memory is one look: it is pending where that found nothing, and else tells what
-- it found
abbrev pub AnswersPoll : Caller → Caller → List Member → Option HeldWatch → Poll (Result Woken AllocError) → Type 0
AnswersPoll old new ms until Pending = AnswersLook old new ms until None
AnswersPoll old new ms until (Ready (Ok w)) = AnswersLook old new ms until (Some w)
AnswersPoll old new ms until (Ready (Err e)) = MayHaveLooked old new

-- what a poll has noted of these cells, behind what was: all, or some where memory is wanting
abbrev pub NotesPoll : Poll (Result Woken AllocError) → List Cell → Option (List Cell) → Option (List Cell) → Type 0
NotesPoll Pending cs old new = new ≡ with_cells cs old
NotesPoll (Ready (Ok w)) cs old new = new ≡ with_cells cs old
NotesPoll (Ready (Err e)) cs old new = ArePartlyNoted cs old new
