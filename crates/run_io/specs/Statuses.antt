-- Statuses, and what calls for one.
use Rattle.std.specs.Prelude.{◌≡◌, ◌⊎◌, ℕ, List, [], ◌∷◌}

-- the status is one of these
abbrev pub IsOneOf : List ℕ → ℕ → Type 0
IsOneOf [] status = ⊥
IsOneOf (s ∷ ss) status = (status ≡ s) ⊎ IsOneOf ss status

-- one status of these is called for, and no other, by what calls for each
pub record HasOneCause (statuses : List ℕ) (CallsFor : ℕ → Type 0) : Type 0 where
  pub status : ℕ
  pub among : IsOneOf statuses status
  pub called : CallsFor status
  pub only : (other : ℕ) → CallsFor other → other ≡ status
