-- A list of commits begins with the opening value under the number 0. Each commit follows with its
-- caller's number.
use Rattle.std.specs.Prelude.{◌≡◌, ℕ, suc, ◌<◌, ◌≤◌, List, [], ◌∷◌, ◌++◌, take}
use Rattle.watch_word.specs.Logs.{Log}
use Rattle.db_front.specs.AnyPass as any

-- the commits of caller c
abbrev pub commits_by : {V : Type 0} → ℕ → List (ℕ × V) → List (ℕ × V)
commits_by {V} c h = any.commits_by (λ (e : ℕ × V). e.0) c h

-- each commit is made by one of the callers 1 to n
abbrev pub AreNamed : {V : Type 0} → ℕ → List (ℕ × V) → Type 0
AreNamed n [] = Unit {0}
AreNamed n (e ∷ es) = (0 < e.0) × (e.0 ≤ n) × AreNamed n es

module _ {V : Type 0} where
  -- the last commit is one of caller c
  abbrev pub IsLastOf : ℕ → List (ℕ × V) → Type 0
  IsLastOf c h = (r : List (ℕ × V)) × (x : V) × (h ≡ r ++ (c, x) ∷ [])

  -- the list is an opening value and commits of the callers 1 to n
  abbrev pub IsHistory : ℕ → List (ℕ × V) → Type 0
  IsHistory n h = (o : V) × (es : List (ℕ × V)) × (h ≡ (0, o) ∷ es) × AreNamed n es

-- the log is right for the opening value, and has what each of the first n commits fires
module _ {V : Type 0} (fired : List (ℕ × V) → Log → Type 0) where
  abbrev pub HasFirstFirings : ℕ → List (ℕ × V) → Log → Type 0
  HasFirstFirings n h log = (k : ℕ) → k ≤ n → fired (take (suc k) h) log
