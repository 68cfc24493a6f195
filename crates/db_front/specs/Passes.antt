-- What callers see of passes and of what they share.
use Rattle.std.specs.Prelude.{◌≡◌, ℕ, zero, suc, ◌+◌, ◌^◌, ◌<◌, ◌≤◌, ◌⊎◌, List, [], ◌∷◌, ◌++◌, length, Option, Result, IfOk, OnOk, OnErr, IfSome, IfNone}
use mathlib.Core.List.{IsPrefix}
use Rattle.atomic_table.specs.Seated.{TableId}
use Rattle.watch_word.specs.Logs.{Log}
use Rattle.db_front.specs.AnyPass as any
use Rattle.db_front.specs.Commits.{IsLastOf}

-- which front it is: its table, and how many callers it has
abbrev pub FrontId : Type 0
FrontId = TableId × ℕ

-- A pass: its caller's number, the list of commits that it has seen, its own commits, the counts
-- that it has read, the words that its tries for the writer's turn found. The stage is 1 with the
-- writer's turn, 2 where it has published, else 0. The log is as far as its caller has seen it: the
-- layer above keeps it here, since it alone knows how two logs are joined.
pub record Known (V : Type 0) : Type 0 where
  pub table : FrontId
  pub number : ℕ
  pub seen : List (ℕ × V)
  pub mine : List (ℕ × V)
  pub counts : List ℕ
  pub tries : List ℕ
  pub stage : ℕ
  pub log : Log

-- a list of passes, and how many it has room for
pub record PassList (V : Type 0) : Type 0 where
  pub room : ℕ
  pub passes : List (Known V)

-- what callers share: which front it is, and how many callers it has
pub record Group : Type 0 where
  pub table : FrontId
  pub callers : ℕ

-- a pass that has done nothing, with the opening log
abbrev pub fresh : {V : Type 0} → FrontId → V → Log → ℕ → Known V
fresh t o l c = record {
  table = t;
  number = c;
  seen = (0, o) ∷ [];
  mine = [];
  counts = [];
  tries = [];
  stage = 0;
  log = l;
}

-- the passes 1 to n
abbrev pub all_fresh : {V : Type 0} → FrontId → V → Log → ℕ → List (Known V)
all_fresh t o l zero = []
all_fresh t o l (suc n) = all_fresh t o l n ++ fresh t o l (suc n) ∷ []

module _ {V : Type 0} where
  -- caller c has a pass in the list
  abbrev pub HasPass : ℕ → List (Known V) → Type 0
  HasPass c ps = any.HasPass (λ (p : Known V). p.number) c ps

  -- each of the callers 1 to n has a pass in the list
  abbrev pub AreAll : ℕ → List (Known V) → Type 0
  AreAll n ps = any.AreAll (λ (p : Known V). p.number) n ps

  -- each pass's own commits are those of its caller in the list, of which it has seen a beginning
  abbrev pub AreIn : List (ℕ × V) → List (Known V) → Type 0
  AreIn h ps = any.AreIn (λ (p : Known V). p.number) (λ p. p.mine) (λ p. p.seen) (λ e. e.0) h ps

  -- caller c has a pass in the list of passes, whose own commits are all those of c in h
  abbrev pub HasMade : List (ℕ × V) → List (Known V) → ℕ → Type 0
  HasMade h ps c =
      any.HasMade (λ (p : Known V). p.number) (λ p. p.mine) (λ p. p.seen) (λ e. e.0) h ps c

  -- the commits in h of each of the callers 1 to n are those that its pass made
  abbrev pub AreMade : ℕ → List (ℕ × V) → List (Known V) → Type 0
  AreMade n h ps =
      any.AreMade (λ (p : Known V). p.number) (λ p. p.mine) (λ p. p.seen) (λ e. e.0) n h ps

-- the passes belong to the front, and none holds the writer's turn
abbrev pub AreIdle : {V : Type 0} → FrontId → List (Known V) → Type 0
AreIdle t [] = Unit {0}
AreIdle t (p ∷ ps) = (p.table ≡ t) × (p.stage ≡ 0) × AreIdle t ps

-- the two answers of a try
abbrev pub IfBegun : {T E : Type 0} → Result (Option T) E → (T → Type 0) → Type 0
IfBegun r P = IfOk r (λ o. IfSome o P)

abbrev pub IfTaken : {T E : Type 0} → Result (Option T) E → Type 0 → Type 0
IfTaken r P = IfOk r (λ o. IfNone o P)

-- all commits are finished, or all but the last
abbrev pub AllOrAllButLast : ℕ → ℕ → Type 0
AllOrAllButLast finished number = (finished ≡ number) ⊎ (finished + 1 ≡ number)

module _ {V : Type 0} where
  -- the pass is of this front, and without the writer's turn
  abbrev pub MayBegin : Group → Known V → Type 0
  MayBegin shared p = (p.table ≡ shared.table) × (p.stage ≡ 0)

  -- with the writer's turn after `Ok`, without it after `Err`
  abbrev pub HasTurnIfOk : {T E : Type 0} → Result T E → Known V → Type 0
  HasTurnIfOk r p = OnOk r (p.stage ≡ 1) × OnErr r (p.stage ≡ 0)

  -- the number of commits of the list that the pass now has seen, which it read in this call
  abbrev pub IsNumber : Known V → Known V → ℕ → Type 0
  IsNumber old new number =
      (number + 1 ≡ length new.seen) × (new.counts ≡ old.counts ++ number ∷ [])
      × (number ≤ 2 ^ 63)

  -- how many of these commits are finished: all, or all but the last; all, where the last one is
  -- the pass's own and it was without the writer's turn
  pub record TellsFinished (old new : Known V) (number finished : ℕ) : Type 0 where
    pub near : AllOrAllButLast finished number
    pub own : old.stage ≡ 0 → IsLastOf old.number new.seen → finished ≡ number

  -- the number of commits, where all of them are finished
  abbrev pub IsFinished : Known V → Known V → ℕ → ℕ → Type 0
  IsFinished old new number finished = IsNumber old new number × (finished ≡ number)

  -- one try was made, which found the writer's turn free
  abbrev pub Won : Known V → Known V → Type 0
  Won old new = any.Won (λ (p : Known V). p.tries) old new

  -- tries were made, the last of which found the writer's turn free
  abbrev pub WonAtLast : Known V → Known V → Type 0
  WonAtLast old new = any.WonAtLast (λ (p : Known V). p.tries) old new

  -- one try was made, which found the number of another of so many callers, and nothing else was
  -- done
  abbrev pub Lost : ℕ → Known V → Known V → Type 0
  Lost callers old new = any.Lost (λ (p : Known V). p.tries) (λ p. p.number)
      (λ p ts. record p { tries = ts }) callers old new

  -- The pass has seen as much or more, and may have read a count; all else is as before. With the
  -- writer's turn it had seen all.
  pub record HasLooked (old new : Known V) : Type 0 where
    pub seen : IsPrefix old.seen new.seen
    pub whole : 0 < old.stage → new.seen ≡ old.seen
    pub counts : IsPrefix old.counts new.counts
    pub room : length new.seen ≤ 2 ^ 63 + 1
    pub others : new ≡ record old { seen = new.seen; counts = new.counts }

  -- the pass has seen as much or more, and may have read counts, made tries and taken the writer's
  -- turn; all else is as before
  pub record HasTurned (old new : Known V) : Type 0 where
    pub seen : IsPrefix old.seen new.seen
    pub counts : IsPrefix old.counts new.counts
    pub others : new ≡ record old {
      seen = new.seen;
      counts = new.counts;
      tries = new.tries;
      stage = new.stage;
    }

  -- the same, where the last try found the writer's turn free
  pub record HasBegun (old new : Known V) : Type 0 where
    pub turned : HasTurned old new
    pub won : WonAtLast old new
    pub room : length new.seen ≤ 2 ^ 63 + 1

  -- the one try found the writer's turn free, and for want of memory the turn was given back
  pub record HasLeft (stands : List (ℕ × V) → V → Type 0) (old new : Known V) : Type 0 where
    pub won : Won old new
    pub out : new.stage ≡ 0
    pub room : length new.seen ≤ 2 ^ 63 + 1
    pub stood : (v : V) × stands new.seen v

  -- the turn is held with the one try that was made
  abbrev pub HasWonTurn : Known V → Known V → Type 0
  HasWonTurn old new = Won old new × (new.stage ≡ 1)

  -- The one try that was made, with its answer: `Some` with the turn, `None` where it found the
  -- number of another of so many callers, `Err` where it found the turn free and there was no
  -- memory.
  pub record HasTried {T E : Type 0} (stands : List (ℕ × V) → V → Type 0) (callers : ℕ)
      (answer : Result (Option T) E) (old new : Known V) : Type 0 where
    pub won : IfBegun answer (λ s. HasWonTurn old new)
    pub taken : IfTaken answer (Lost callers old new)
    pub memory : OnErr answer (HasLeft stands old new)
