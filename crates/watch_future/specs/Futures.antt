-- Futures over sets.
use Rattle.std.specs.Prelude.{◌≡◌, List, None, Option, Result, IfOk, IfSome, IsSomeAnd}
use Rattle.std.specs.Borrow.{MutBor}
use Rattle.std.specs.declared.alloc.AllocError.{AllocError}
use Rattle.futures.specs.declared.task.Poll.{Poll}
use Rattle.futures.specs.declared.task.Poll.TheVariants.{Ready, Pending}
use Rattle.mem_txn.specs.Database.{Caller}
use Rattle.mem_txn.specs.Held.{HeldWatch}
use Rattle.watch_set.specs.Checks.{AnswersWait, IsQuietLook, KeepsHeld, with_until}
use Rattle.watch_set.specs.Members.{Member, watches_of}
use Rattle.watch_set.specs.declared.woken.Woken.{Woken}
use Rattle.watch_future.specs.Cells.{cells_awaited}
use Rattle.watch_future.specs.NotedWatches.{cells_noted}
use Rattle.watch_future.specs.Polls.{CanPoll, MayHaveLooked}
use Rattle.watch_future.specs.declared.future.WatchFuture.{WatchFuture}

-- it has its pass, by which its set can be polled
abbrev pub CanBePolled : {R : Type 0} → WatchFuture R → Type 0
CanBePolled w = IsSomeAnd w.pass (λ p. CanPoll w.db.now p.now w.set.now w.until)

-- what is given with a pass that was lent: the same reference, behind which the pass has looked at
-- most, and what a wait tells, which is some looks that found nothing and one that didn't
pub record GivesBack (lent : MutBor Caller) (ms : List Member) (until : Option HeldWatch)
    (r : MutBor Caller × Result Woken AllocError) : Type 0 where
  pub same_reference : let back = r.0 in back.ghost_name ≡ lent.ghost_name
  pub woken : let back = r.0 in IfOk r.1 (AnswersWait lent.now back.now ms until)
  pub keeps : let back = r.0 in KeepsHeld lent.now back.now
  pub looks : let back = r.0 in MayHaveLooked lent.now back.now

-- what a future that can be polled may give
abbrev pub MayGive : {R : Type 0} → WatchFuture R → MutBor Caller × Result Woken AllocError → Type 0
MayGive w r = IfSome w.pass (λ p. GivesBack p w.set.now w.until r)

-- after a pending poll the pass is there by the same reference, and one look has found each watch
-- quiet
pub record HasWaited (old new : MutBor Caller) (ms : List Member) (until : Option HeldWatch) : Type 0 where
  pub same_reference : new.ghost_name ≡ old.ghost_name
  pub quiet : IsQuietLook old.now (with_until (watches_of ms) until) new.now
  pub keeps : KeepsHeld old.now new.now
  pub looks : MayHaveLooked old.now new.now

-- and the future waits as before, and keeps the cells of all of them
pub record Waits {R : Type 0} (old new : WatchFuture R) : Type 0 where
  pub lent : IfSome old.pass (λ o. IsSomeAnd new.pass (λ n. HasWaited o n old.set.now old.until))
  pub noted : cells_noted new.lists.kept.items ≡ cells_awaited old.set.now old.until
  pub db : new.db.now ≡ old.db.now
  pub set : new.set.now ≡ old.set.now
  pub until : new.until ≡ old.until

-- behind a ready poll the pass is gone
abbrev pub GoesOn : {R : Type 0} → WatchFuture R → WatchFuture R → Poll (MutBor Caller × Result Woken AllocError)
    → Type 0
GoesOn old new Pending = Waits old new
GoesOn old new (Ready r) = new.pass ≡ None
