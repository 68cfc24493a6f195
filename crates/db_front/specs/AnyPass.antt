-- Words on passes, said once for all that have them: this crate's passes, and those of a layer
-- above, whose commits are other values. A pass has its caller's number, the commits that it has
-- seen, its own ones, and what its tries for the writer's turn found.
use Rattle.std.specs.Prelude.{◌≡◌, ◌≢◌, ◌==◌, ◌<◌, ◌≤◌, ◌⊎◌, ℕ, List, [], ◌∷◌, ◌++◌, filter}
use mathlib.Core.List.{IsPrefix}

-- the commits of caller c, where each commit tells its caller
abbrev pub commits_by : {C : Type 0} → (C → ℕ) → ℕ → List C → List C
commits_by {C} caller c h = filter (λ (e : C). caller e == c) h

module _ {P : Type 0} (number : P → ℕ) where
  -- caller c has a pass in the list
  abbrev pub HasPass : ℕ → List P → Type 0
  HasPass c [] = ⊥
  HasPass c (p ∷ ps) = (number p ≡ c) ⊎ HasPass c ps

  -- each of the callers 1 to n has a pass in the list
  abbrev pub AreAll : ℕ → List P → Type 0
  AreAll n ps = (c : ℕ) → 0 < c → c ≤ n → HasPass c ps

module _ {P C : Type 0} (number : P → ℕ) (own seen : P → List C) (caller : C → ℕ) where
  -- each pass's own commits are those of its caller in the list, of which it has seen a beginning
  abbrev pub AreIn : List C → List P → Type 0
  AreIn h [] = Unit {0}
  AreIn h (p ∷ ps) = (commits_by caller (number p) h ≡ own p) × IsPrefix (seen p) h × AreIn h ps

  -- caller c has a pass in the list of passes, whose own commits are all those of c in h
  abbrev pub HasMade : List C → List P → ℕ → Type 0
  HasMade h [] c = ⊥
  HasMade h (p ∷ ps) c = ((number p ≡ c) × (commits_by caller c h ≡ own p)) ⊎ HasMade h ps c

  -- the commits in h of each of the callers 1 to n are those that its pass made
  abbrev pub AreMade : ℕ → List C → List P → Type 0
  AreMade n h ps = (c : ℕ) → 0 < c → c ≤ n → HasMade h ps c

module _ {P : Type 0} (tries : P → List ℕ) where
  -- one try was made, which found the writer's turn free
  abbrev pub Won : P → P → Type 0
  Won old new = tries new ≡ tries old ++ 0 ∷ []

  -- tries were made, the last of which found the writer's turn free
  abbrev pub WonAtLast : P → P → Type 0
  WonAtLast old new = (ts : List ℕ) × (tries new ≡ tries old ++ ts ++ 0 ∷ [])

  -- one try was made, which found the number of another of so many callers, and nothing else was
  -- done; `with_tries` is the pass whose tries alone are others
  abbrev pub Lost : (P → ℕ) → (P → List ℕ → P) → ℕ → P → P → Type 0
  Lost number with_tries callers old new =
      (n : ℕ) × (n ≢ 0) × (n ≢ number old) × (n ≤ callers)
      × (new ≡ with_tries old (tries old ++ n ∷ []))
