-- Checks of held watches.
use Rattle.std.specs.Prelude.{◌≡◌, ◌++◌, ◌-◌, ◌<◌, ◌≤◌, ℕ, zero, suc, [], ◌∷◌, length, true, false, Some}
use mathlib.Core.List.{IsPrefix}
use Rattle.mdb_schema.specs.Guarded.{IsUnchanged}
use Rattle.mdb_schema.specs.History.{IsMadeBy}
use Rattle.mdb_schema.specs.Query.{Query}
use Rattle.watch_word.specs.Logs.{IsLater, has_fired}
use Rattle.mem_txn.specs.CellHistory.{HasFirings, IsUnfired, cell_at, state_after, table_in, trees_after}
use Rattle.mem_txn.specs.Database.{Caller, HasSeen, cells_seen, reading_of}
use Rattle.mem_txn.specs.Held.{HeldWatch, IsHeldOf, IsLookedUp}
use Rattle.mem_txn.specs.declared.look.Look.{Look}
use Rattle.mem_txn.specs.declared.look.Look.TheVariants as look

-- The watch is one of this caller's database: it was asked after some of the commits that the
-- caller has seen, and its cell is the cell of its question after these.
pub record IsHeldBy (p : Caller) (h : HeldWatch) : Type 0 where
  pub seen : h.number ≤ length p.seen
  pub looked : let J = cells_seen p in
      let t = table_in p.schema (state_after J h.number) (trees_after J h.number) h.query.table in
      IsLookedUp t h.query h.spot
  pub cell : let spot = h.spot in cell_at (cells_seen p) h.query h.number ≡ Some spot.watch
  pub book : let spot = h.spot in
      let cell = spot.watch in
      cell.book ≡ p.book

-- ---- the log

-- the log that the caller has seen has what the commits before the last one fire, and what the last
-- one fires where that is its own
pub record HasHeard (p : Caller) : Type 0 where
  pub fired : HasFirings (cells_seen p) (length p.seen - 1) p.log
  pub fired_own : IsMadeBy p.seen p.number (length p.seen)
      → HasFirings (cells_seen p) (length p.seen) p.log

-- the caller has seen as much of the log or more, and all else is as before
pub record Hears (old new : Caller) : Type 0 where
  pub later : IsLater old.log new.log
  pub others : new ≡ record old { log = new.log }

-- ---- what a check tells

-- The watch's cell isn't in the log that the caller has seen, which has all that the commits before
-- the last one fire, and what the last one fires where that is the caller's own. So the question's
-- answer has not changed up to the commit before the last, and up to the last where that is the
-- caller's own.
pub record IsQuiet (p : Caller) (h : HeldWatch) (at : ℕ) : Type 0 where
  pub quiet : let spot = h.spot in has_fired spot.watch p.log ≡ false
  pub fired : HasFirings (cells_seen p) (at - 1) p.log
  pub fired_own : IsMadeBy p.seen p.number at → HasFirings (cells_seen p) at p.log
  pub unchanged : IsUnchanged p.schema p.seen p.number h.query h.number at

-- The watch's cell is in the log that the caller has seen, and the question has another cell after
-- all commits. So one of the commits since the question was asked has fired the watch's cell.
pub record IsFired (p : Caller) (h : HeldWatch) (at : ℕ) : Type 0 where
  pub later : h.number < at
  pub log : let spot = h.spot in has_fired spot.watch p.log ≡ true
  pub other : let spot = h.spot in cell_at (cells_seen p) h.query at ≡ Some spot.watch → ⊥
  pub fired : let spot = h.spot in IsUnfired (cells_seen p) spot.watch h.number at → ⊥

-- The watch's cell is in the log that the caller has seen, and is its question's cell still after
-- all commits that the caller has seen. So a commit that it hasn't seen has fired the cell.
pub record IsLate (p : Caller) (h : HeldWatch) : Type 0 where
  pub log : let spot = h.spot in has_fired spot.watch p.log ≡ true
  pub same : let spot = h.spot in cell_at (cells_seen p) h.query (length p.seen) ≡ Some spot.watch

-- what a check tells of the commits that the caller now has seen
abbrev pub IsLookAt : Caller → HeldWatch → Look → Type 0
IsLookAt p h (look.Quiet at) = IsQuiet p h at
IsLookAt p h (look.Fired at) = IsFired p h at

abbrev pub number_of : Look → ℕ
number_of (look.Quiet at) = at
number_of (look.Fired at) = at

-- ---- one look

-- The caller has read the count of commits once, which is the number of those that it now has seen.
-- It has made no try.
pub record HasReadOnce (old new : Caller) : Type 0 where
  pub seen : HasSeen old new
  pub counts : new.counts ≡ old.counts ++ length new.seen ∷ []
  pub tries : new.tries ≡ old.tries

-- after one read the caller has seen no more than the log
pub record ReadsAndHears (old new : Caller) : Type 0 where
  pub read : Caller
  pub once : HasReadOnce old read
  pub hears : Hears read new

-- the same, and so many times again, each after a watch was found late
abbrev pub ReadsAgain : ℕ → Caller → Caller → Type 0
ReadsAgain zero old new = ReadsAndHears old new
ReadsAgain (suc times) old new =
    (mid : Caller) × (late : HeldWatch) × ReadsAgain times old mid × IsLate mid late
    × ReadsAndHears mid new

-- One look, at one watch or at several: one read of the count of commits, and one more for each
-- time that a watch was found late.
abbrev pub LooksOnce : Caller → Caller → Type 0
LooksOnce old new = (times : ℕ) × ReadsAgain times old new

-- a check of a watch is one look, and tells of all commits that the caller then has seen
abbrev pub AnswersCheck : Caller → Caller → HeldWatch → Look → Type 0
AnswersCheck old new h l = LooksOnce old new × (number_of l ≡ length new.seen) × IsLookAt new h l

-- ---- what holds of every caller

-- a watch that was held in the beginning of what it has seen is held
abbrev pub HeldStays : Caller → Type 0
HeldStays p = (old : Caller) (h : HeldWatch) → HasSeen old p → IsHeldBy old h → IsHeldBy p h

-- one caller has seen a beginning of what another has seen, of the same database: as before a
-- commit of its own
pub record IsBeginning (old new : Caller) : Type 0 where
  pub schema : new.schema ≡ old.schema
  pub book : new.book ≡ old.book
  pub seen : IsPrefix old.seen new.seen
  pub trees : IsPrefix old.trees new.trees

-- so is one that was held by any caller that had seen such a beginning
abbrev pub HeldLonger : Caller → Type 0
HeldLonger p = (old : Caller) (h : HeldWatch) → IsBeginning old p → IsHeldBy old h → IsHeldBy p h

-- and a watch that was asked of what it has seen is held by it
abbrev pub AskedIsHeld : Caller → Type 0
AskedIsHeld p = (q : Query) (h : HeldWatch) → IsHeldOf (reading_of p) q h → IsHeldBy p h

-- two watches have one cell, and are of one index of one table
pub record AreOfOneCell (g h : HeldWatch) : Type 0 where
  pub cell : let a = g.spot in let b = h.spot in a.watch ≡ b.watch
  pub table : let q = g.query in let r = h.query in q.table ≡ r.table
  pub index : let a = g.spot in let b = h.spot in a.index ≡ b.index

-- so have two watches that a caller holds where they have one id
abbrev pub IdsTellCells : Caller → Type 0
IdsTellCells p =
    (g h : HeldWatch) → IsHeldBy p g → IsHeldBy p h → g.spot.watch.id ≡ h.spot.watch.id
    → AreOfOneCell g h
