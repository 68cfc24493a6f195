-- Polls of a set, one after the other.
use Rattle.std.proofs.Common.{◌≡◌, ◌∙◌, ◌<◌, inl, inr, ℕ, zero, suc, List, [], ◌∷◌, length, Option, Some, None, option_copied, Result, Ok, Err, IfOk, IfSome, Bor, MutBor, refl, sym, ap, subst, arith}
use Rattle.std.specs.Prelude.{IsSomeAnd}
use Rattle.std.specs.declared.alloc.AllocError.{AllocError}
use Rattle.futures.specs.Poll.{OnPending}
use Rattle.futures.specs.declared.task.Poll.{Poll}
use Rattle.futures.specs.declared.task.Poll.TheVariants.{Ready, Pending}
use Rattle.logbook.specs.Pages.{Book}
use Rattle.mem_txn.specs.Checked.{IsHeldBy}
use Rattle.mem_txn.specs.Database.{Caller, Database}
use Rattle.mem_txn.specs.Held.{HeldWatch}
use Rattle.watch_set.specs.Checks.{AnswersWait, AreQuietLooks, IsQuietLook, KeepsHeld, OnlyLooks, with_until}
use Rattle.watch_set.specs.Members.{AreHeldBy, Member, watches_of}
use Rattle.watch_set.specs.declared.woken.Woken.{Woken}
use Rattle.watch_set.proofs.ChecksInTurn.{all_kept, looks_after, same_database}
use Rattle.watch_future.specs.Cells.{AreOfBook, cells_awaited, cells_of}
use Rattle.watch_future.specs.Futures.{GivesBack, HasWaited}
use Rattle.watch_future.specs.NotedWatches.{cells_noted}
use Rattle.watch_future.specs.Polls.{AnswersPoll, CanPoll, MayHaveLooked}
use Rattle.watch_future.specs.declared.noted_watch.NotedWatch.{NotedWatch}

-- a set that has members has cells to note
pub some_awaited : (ms : List Member) (until : Option HeldWatch) → 0 < length ms → 0 < length (cells_awaited ms until)
some_awaited [] until some = absurd (omega (arith, some))
some_awaited (m ∷ ms) None some = omega arith
some_awaited (m ∷ ms) (Some h) some = omega arith

-- what cancels, behind a reference
pub cancel_held : (p : Caller) (until : Option (Bor HeldWatch)) → IfSome (option_copied until) (IsHeldBy p) → IfSome until (λ h. IsHeldBy p h.now)
cancel_held p None held = tt
cancel_held p (Some h) held = held

-- ---- the pass after a poll

until-kept : (old new : Caller) (until : Option HeldWatch) → KeepsHeld old new → IfSome until (IsHeldBy old) → IfSome until (IsHeldBy new)
until-kept old new None keeps held = tt
until-kept old new (Some h) keeps held = keeps h held

pub can_again : (db : Database) (old new : Caller) (ms : List Member) (until : Option HeldWatch) → OnlyLooks old new → KeepsHeld old new
    → CanPoll db old ms until → CanPoll db new ms until
can_again db old new ms until looks keeps can = record {
  some = can.some;
  own = same_database db old new looks can.own;
  held = all_kept old new (watches_of ms) keeps can.held;
  cancel = until-kept old new until keeps can.cancel;
}

-- ---- the cells that a poll notes

held-of-book : (p : Caller) (hs : List HeldWatch) → AreHeldBy p hs → AreOfBook p.book (cells_of hs)
held-of-book p [] all = tt
held-of-book p (h ∷ hs) all = (let one = all.0 in one.book, held-of-book p hs all.1)

held-with : (p : Caller) (hs : List HeldWatch) (until : Option HeldWatch) → AreHeldBy p hs → IfSome until (IsHeldBy p) → AreHeldBy p (with_until hs until)
held-with p hs None all one = all
held-with p [] (Some h) all one = (one, tt)
held-with p (x ∷ xs) (Some h) all one = (all.0, held-with p xs (Some h) all.1 one)

pub awaited_of_book : (db : Database) (p : Caller) (ms : List Member) (until : Option HeldWatch) → CanPoll db p ms until → AreOfBook db.book (cells_awaited ms until)
awaited_of_book db p ms until can =
    let own = can.own in
    subst (λ (b : Book). AreOfBook b (cells_awaited ms until)) own.2 (held-of-book p (with_until (watches_of ms) until) (held-with p (watches_of ms) until can.held can.cancel))

-- ---- a wait of several polls

-- a look that found nothing, before others
looks-before : (looks : ℕ) (old mid new : Caller) (hs : List HeldWatch) → IsQuietLook old hs mid → AreQuietLooks looks mid hs new → AreQuietLooks (suc looks) old hs new
looks-before zero old mid new hs quiet same = (old, refl, subst (λ (p : Caller). IsQuietLook old hs p) (sym same) quiet)
looks-before (suc looks) old mid new hs quiet (last, first, then) = (last, looks-before looks old mid last hs quiet first, then)

waits-before : (old mid new : Caller) (ms : List Member) (until : Option HeldWatch) (told : Result Woken AllocError) → IsQuietLook old (with_until (watches_of ms) until) mid
    → IfOk told (AnswersWait mid new ms until) → IfOk told (AnswersWait old new ms until)
waits-before old mid new ms until (Err e) quiet woken = tt
waits-before old mid new ms until (Ok w) quiet (looks, last, before, woken) =
    (suc looks, last, looks-before looks old mid last (with_until (watches_of ms) until) quiet before, woken)

waits-now : (old new : Caller) (ms : List Member) (until : Option HeldWatch) (told : Result Woken AllocError) → AnswersPoll old new ms until (Ready told) → IfOk told (AnswersWait old new ms until)
waits-now old new ms until (Err e) looked = tt
waits-now old new ms until (Ok w) looked = (zero, old, refl, looked)

looks-on : (old mid new : Caller) → MayHaveLooked old mid → MayHaveLooked mid new → MayHaveLooked old new
looks-on old mid new first (inl same) = subst (MayHaveLooked old) (sym same) first
looks-on old mid new first (inr then) = inr (looks_after old mid new first then)

-- ---- a poll of a future

-- that is ready
pub gives_now : (old : Option (MutBor Caller)) (lent back : MutBor Caller) (ms : List Member) (copied until : Option HeldWatch) (polled : Poll (Result Woken AllocError)) (told : Result Woken AllocError)
    → old ≡ Some lent → back.ghost_name ≡ lent.ghost_name → copied ≡ until → polled ≡ Ready told
    → AnswersPoll lent.now back.now ms copied polled → KeepsHeld lent.now back.now → MayHaveLooked lent.now back.now
    → IfSome old (λ p. GivesBack p ms until (back, told))
gives_now old lent back ms copied until polled told there same copy is answered keeps looks =
    let now : AnswersPoll lent.now back.now ms until (Ready told) =
    subst (λ (u : Option HeldWatch). AnswersPoll lent.now back.now ms u (Ready told)) copy
    (subst (λ (p : Poll (Result Woken AllocError)). AnswersPoll lent.now back.now ms copied p) is answered) in
    subst (λ (o : Option (MutBor Caller)). IfSome o (λ p. GivesBack p ms until (back, told))) (sym there) (record {
      same_reference = same;
      woken = waits-now lent.now back.now ms until told now;
      keeps = keeps;
      looks = looks;
    })

quiet-now : (old new : Caller) (ms : List Member) (copied until : Option HeldWatch) (polled : Poll (Result Woken AllocError)) → copied ≡ until → polled ≡ Pending
    → AnswersPoll old new ms copied polled → IsQuietLook old (with_until (watches_of ms) until) new
quiet-now old new ms copied until polled copy is answered =
    subst (λ (u : Option HeldWatch). IsQuietLook old (with_until (watches_of ms) u) new) copy
    (subst (λ (p : Poll (Result Woken AllocError)). AnswersPoll old new ms copied p) is answered)

-- that is pending, before others
pub gives_before : (old : Option (MutBor Caller)) (lent mid : MutBor Caller) (ms : List Member) (copied until : Option HeldWatch) (polled : Poll (Result Woken AllocError)) (r : MutBor Caller × Result Woken AllocError)
    → old ≡ Some lent → mid.ghost_name ≡ lent.ghost_name → copied ≡ until → polled ≡ Pending
    → AnswersPoll lent.now mid.now ms copied polled → KeepsHeld lent.now mid.now → MayHaveLooked lent.now mid.now
    → GivesBack mid ms until r → IfSome old (λ p. GivesBack p ms until r)
gives_before old lent mid ms copied until polled r there same copy is answered keeps looks gives =
    let quiet = quiet-now lent.now mid.now ms copied until polled copy is answered in
    subst (λ (o : Option (MutBor Caller)). IfSome o (λ p. GivesBack p ms until r)) (sym there) (record {
      same_reference = gives.same_reference ∙ same;
      woken = let back = r.0 in waits-before lent.now mid.now back.now ms until r.1 quiet gives.woken;
      keeps = λ h held. gives.keeps h (keeps h held);
      looks = let back = r.0 in looks-on lent.now mid.now back.now looks gives.looks;
    })

-- and by itself
pub pending_now : (old new : Option (MutBor Caller)) (lent mid : MutBor Caller) (ms : List Member) (copied until : Option HeldWatch) (polled : Poll (Result Woken AllocError))
    → old ≡ Some lent → new ≡ Some mid → mid.ghost_name ≡ lent.ghost_name → copied ≡ until → polled ≡ Pending
    → AnswersPoll lent.now mid.now ms copied polled → KeepsHeld lent.now mid.now → MayHaveLooked lent.now mid.now
    → IfSome old (λ o. IsSomeAnd new (λ n. HasWaited o n ms until))
pending_now old new lent mid ms copied until polled there here same copy is answered keeps looks =
    let waited : HasWaited lent mid ms until = record {
      same_reference = same;
      quiet = quiet-now lent.now mid.now ms copied until polled copy is answered;
      keeps = keeps;
      looks = looks;
    } in
    subst (λ (o : Option (MutBor Caller)). IfSome o (λ p. IsSomeAnd new (λ n. HasWaited p n ms until))) (sym there)
    (subst (λ (o : Option (MutBor Caller)). IsSomeAnd o (λ n. HasWaited lent n ms until)) (sym here) waited)

pub noted_now : (ms : List Member) (copied until : Option HeldWatch) (polled : Poll (Result Woken AllocError)) (ks : List NotedWatch) → copied ≡ until → polled ≡ Pending
    → OnPending polled (cells_noted ks ≡ cells_awaited ms copied) → cells_noted ks ≡ cells_awaited ms until
noted_now ms copied until polled ks copy is noted =
    let kept : cells_noted ks ≡ cells_awaited ms copied =
    subst (λ (p : Poll (Result Woken AllocError)). OnPending p (cells_noted ks ≡ cells_awaited ms copied)) is noted in
    kept ∙ ap (cells_awaited ms) copy
