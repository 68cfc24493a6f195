-- What one look does, and how several calls are one look.
use Rattle.std.proofs.Common.{◌≡◌, ◌⊎◌, ◌∙◌, ◌++◌, ℕ, zero, suc, List, [], ◌∷◌, length, Option, Some, append_assoc, inl, inr, sym, ap, subst}
use Rattle.std.specs.Prelude.{IfSome}
use Rattle.mem_txn.specs.Checked.{AnswersCheck, HasReadOnce, Hears, IsLate, LooksOnce, ReadsAgain, ReadsAndHears, IsLookAt, number_of}
use Rattle.mem_txn.specs.Database.{Caller, HasRead, HasSeen}
use Rattle.mem_txn.specs.Held.{HeldWatch}
use Rattle.mem_txn.specs.declared.look.Look.{Look}
use Rattle.mem_txn.proofs.HeardAlong.{heard_seen, hears_itself, hears_twice}
use Rattle.mem_txn.proofs.HeldAlong.{seen_twice}

-- ---- the calls of one look

-- a read of the state
pub read_once : (old new : Caller) (number : ℕ) → HasRead old new number → HasSeen old new → new.tries ≡ old.tries → HasReadOnce old new
read_once old new number read seen tries = record {
  seen = seen;
  counts = read.1 ∙ ap (λ (n : ℕ). old.counts ++ n ∷ []) read.0;
  tries = tries;
}

-- is one look
pub looks_once : (old new : Caller) → HasReadOnce old new → LooksOnce old new
looks_once old new once = (0, record { read = new; once = once; hears = hears_itself new })

hears_after : (times : ℕ) (old mid new : Caller) → ReadsAgain times old mid → Hears mid new → ReadsAgain times old new
hears_after zero old mid new reads hears = record { read = reads.read; once = reads.once; hears = hears_twice reads.read mid new reads.hears hears }
hears_after (suc times) old mid new reads hears =
    let last = reads.4 in
    (reads.0, reads.1, reads.2, reads.3, record { read = last.read; once = last.once; hears = hears_twice last.read mid new last.hears hears })

-- so it is with a check after it
pub look_hears : (old mid new : Caller) → LooksOnce old mid → Hears mid new → LooksOnce old new
look_hears old mid new look hears = (look.0, hears_after look.0 old mid new look.1 hears)

-- and with one read more where the check found a watch late
pub look_again : (old mid new : Caller) (late : HeldWatch) → LooksOnce old mid → IsLate mid late → HasReadOnce mid new → LooksOnce old new
look_again old mid new late look is once = (suc look.0, (mid, late, look.1, is, record { read = new; once = once; hears = hears_itself new }))

-- ---- what it leaves

-- after one read, which was of this count
count_read : (old new : Caller) → ReadsAndHears old new → new.counts ≡ old.counts ++ length new.seen ∷ []
count_read old new reads =
    let h = reads.hears in
    let once = reads.once in
    subst (λ (c : Caller). c.counts ≡ old.counts ++ length c.seen ∷ []) (sym h.others) once.counts

counts_read : (times : ℕ) (old new : Caller) → ReadsAgain times old new → (read : List ℕ) × (new.counts ≡ old.counts ++ (read ++ length new.seen ∷ []))
counts_read zero old new reads = ([], count_read old new reads)
counts_read (suc times) old new reads =
    let mid = reads.0 in
    let before = counts_read times old mid reads.2 in
    let n = length mid.seen in
    let m = length new.seen in
    let earlier : List ℕ = before.0 ++ n ∷ [] in (
      earlier,
      count_read mid new reads.4
          ∙ (ap (λ (ns : List ℕ). ns ++ m ∷ []) before.1 ∙ append_assoc old.counts earlier (m ∷ [])),
    )

-- the number of the commits that the caller now has seen is a count that it read in this look, its
-- last
pub last_read : (old new : Caller) → LooksOnce old new → (read : List ℕ) × (new.counts ≡ old.counts ++ (read ++ length new.seen ∷ []))
last_read old new look = counts_read look.0 old new look.1

seen_read : (old new : Caller) → ReadsAndHears old new → HasSeen old new
seen_read old new reads = let once = reads.once in heard_seen old reads.read new once.seen reads.hears

seen_again : (times : ℕ) (old new : Caller) → ReadsAgain times old new → HasSeen old new
seen_again zero old new reads = seen_read old new reads
seen_again (suc times) old new reads =
    seen_twice old reads.0 new (seen_again times old reads.0 reads.2) (seen_read reads.0 new reads.4)

-- the caller has seen as much or more
pub look_sees : (old new : Caller) → LooksOnce old new → HasSeen old new
look_sees old new look = seen_again look.0 old new look.1

tries_read : (old new : Caller) → ReadsAndHears old new → new.tries ≡ old.tries
tries_read old new reads =
    let h = reads.hears in
    let once = reads.once in
    subst (λ (c : Caller). c.tries ≡ old.tries) (sym h.others) once.tries

tries_again : (times : ℕ) (old new : Caller) → ReadsAgain times old new → new.tries ≡ old.tries
tries_again zero old new reads = tries_read old new reads
tries_again (suc times) old new reads = tries_read reads.0 new reads.4 ∙ tries_again times old reads.0 reads.2

-- and has made no try
pub look_tries_not : (old new : Caller) → LooksOnce old new → new.tries ≡ old.tries
look_tries_not old new look = tries_again look.0 old new look.1

-- ---- a check that reads again while its watch is late

-- so far it has done nothing, or it is one look that found the watch late
abbrev pub IsSoFar : Caller → HeldWatch → Caller → Type 0
IsSoFar old h mid = (mid ≡ old) ⊎ (LooksOnce old mid × IsLate mid h)

-- with one read more it is one look
pub reads_so : (old mid new : Caller) (h : HeldWatch) → IsSoFar old h mid → HasReadOnce mid new → LooksOnce old new
reads_so old mid new h so once = elim so [
  | inl is ↦ subst (λ (c : Caller). LooksOnce c new) is (looks_once mid new once)
  | inr look ↦ look_again old mid new h look.0 look.1 once
]

pub sees_so : (old mid new : Caller) (h : HeldWatch) → IsSoFar old h mid → HasSeen mid new → HasSeen old new
sees_so old mid new h so seen = elim so [
  | inl is ↦ subst (λ (c : Caller). HasSeen c new) is seen
  | inr look ↦ seen_twice old mid new (look_sees old mid look.0) seen
]

pub tries_so : (old mid : Caller) (h : HeldWatch) → IsSoFar old h mid → mid.tries ≡ old.tries
tries_so old mid h so = elim so [
  | inl is ↦ ap (λ (c : Caller). c.tries) is
  | inr look ↦ look_tries_not old mid look.0
]

-- a watch that is checked after each read is told so
pub told_so : (old read new : Caller) (h : HeldWatch) (o : Option Look) (told : Look) → LooksOnce old read → Hears read new → IfSome o (λ l. (number_of l ≡ length new.seen) × IsLookAt new h l) → o ≡ Some told → AnswersCheck old new h told
told_so old read new h o told look hears all is =
    let here : (number_of told ≡ length new.seen) × IsLookAt new h told = subst (λ (x : Option Look). IfSome x (λ l. (number_of l ≡ length new.seen) × IsLookAt new h l)) is all in
    (look_hears old read new look hears, here.0, here.1)
