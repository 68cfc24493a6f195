-- Looks at the members of a set, in turn.
use Rattle.std.specs.Prelude.{◌≡◌, ◌++◌, ℕ, zero, suc, List, [], ◌∷◌, Option, Some, None, take, slice_get}
use Rattle.mem_txn.specs.Checked.{AnswersCheck, HasHeard, HasReadOnce, IsHeldBy}
use Rattle.mem_txn.specs.Database.{Caller, HasSeen}
use Rattle.mem_txn.specs.Held.{HeldWatch}
use Rattle.mem_txn.specs.declared.look.Look.{Look}
use Rattle.mem_txn.specs.declared.look.Look.TheVariants as look
use Rattle.watch_set.specs.Members.{Member, watches_of}
use Rattle.watch_set.specs.declared.woken.Woken.{Woken}
use Rattle.watch_set.specs.declared.woken.Woken.TheVariants as woken

-- A watch was checked in the look that a pass began as `first`, with this answer, and the pass has
-- seen as much or more since the check before. All checks up to here are one look together: it reads
-- the count of commits once, and again where a watch is found late.
abbrev pub IsChecked : Caller → Caller → Caller → HeldWatch → Look → Type 0
IsChecked first old new h l = HasSeen old new × AnswersCheck first new h l

-- the watches were checked one after the other, and each was quiet
abbrev pub AreQuiet : Caller → Caller → List HeldWatch → Caller → Type 0
AreQuiet first old [] new = new ≡ old
AreQuiet first old (h ∷ hs) new =
    (next : Caller) × (at : ℕ) × IsChecked first old next h (look.Quiet at)
    × AreQuiet first next hs new

-- a watch was checked and had fired
abbrev pub IsFoundFired : Caller → Caller → Caller → HeldWatch → ℕ → Type 0
IsFoundFired first old new h at = IsChecked first old new h (look.Fired at)

-- what cancels a wait, if anything, behind the watches of the set
abbrev pub with_until : List HeldWatch → Option HeldWatch → List HeldWatch
with_until hs None = hs
with_until hs (Some h) = hs ++ h ∷ []

-- The member at this place, or else what cancels, has fired, and each watch before it was checked
-- just before and was quiet.
abbrev pub FindsWoken : Caller → Caller → Caller → List Member → Option HeldWatch → Woken → Type 0
FindsWoken first read new ms until (woken.Fired place at) =
    (m : Member) × (slice_get ms place ≡ Some m)
    × (mid : Caller) × AreQuiet first read (take place (watches_of ms)) mid
    × IsFoundFired first mid new m.held at
FindsWoken first read new ms None (woken.Stopped at) = ⊥
FindsWoken first read new ms (Some h) (woken.Stopped at) =
    (mid : Caller) × AreQuiet first read (watches_of ms) mid × IsFoundFired first mid new h at

-- what is found from a read on: nothing exactly where each was checked and quiet
abbrev pub Finds : Caller → Caller → Caller → List Member → Option HeldWatch → Option Woken → Type 0
Finds first read new ms until None = AreQuiet first read (with_until (watches_of ms) until) new
Finds first read new ms until (Some w) = FindsWoken first read new ms until w

-- one look at all of them
abbrev pub AnswersLook : Caller → Caller → List Member → Option HeldWatch → Option Woken → Type 0
AnswersLook old new ms until w =
    (read : Caller) × HasReadOnce old read × Finds old read new ms until w

-- one look at these watches, each of which was quiet
abbrev pub IsQuietLook : Caller → List HeldWatch → Caller → Type 0
IsQuietLook old hs new = (read : Caller) × HasReadOnce old read × AreQuiet old read hs new

-- so many looks, one after the other, each of which found nothing
abbrev pub AreQuietLooks : ℕ → Caller → List HeldWatch → Caller → Type 0
AreQuietLooks zero old hs new = new ≡ old
AreQuietLooks (suc looks) old hs new =
    (mid : Caller) × AreQuietLooks looks old hs mid × IsQuietLook mid hs new

-- a wait is some looks that found nothing, and one that didn't
abbrev pub AnswersWait : Caller → Caller → List Member → Option HeldWatch → Woken → Type 0
AnswersWait old new ms until w =
    (looks : ℕ) × (last : Caller)
    × AreQuietLooks looks old (with_until (watches_of ms) until) last
    × AnswersLook last new ms until (Some w)

-- each watch that the caller held is held
abbrev pub KeepsHeld : Caller → Caller → Type 0
KeepsHeld old new = (h : HeldWatch) → IsHeldBy old h → IsHeldBy new h

-- a pass has looked: it has seen as much or more, has made no try, and all else is as before
pub record OnlyLooks (old new : Caller) : Type 0 where
  pub seen : HasSeen old new
  pub others : new ≡ record old {
    seen = new.seen;
    trees = new.trees;
    counts = new.counts;
    log = new.log;
  }
