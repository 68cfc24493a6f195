-- What sets of watches are asked, by the places of their watches.
use Rattle.std.specs.Prelude.{◌≡◌, ◌⊎◌, ◌+◌, ◌<◌, ◌++◌, ◌∷◌, ℕ, List, [], length, Option, Some, None, slice_get, slice_index, slice_set, if◌then◌else◌, nat_eq}
use Rattle.mdb_datum.specs.Bytes.{Bytes}
use Rattle.run_check.specs.declared.watching.Set.{Set}
use Rattle.run_check.specs.declared.watching.Tie.{Tie}
use Rattle.run_check.specs.declared.watching.Tie.TheVariants as ties
use Rattle.run_check.specs.declared.watching.Watch.{Watch}

-- they are of one question, asked after the same commit
abbrev pub AreLike : Watch → Watch → Type 0
AreLike a b = (a.number ≡ b.number) × (a.query.now ≡ b.query.now)

-- they look at one index
abbrev pub ShareIndex : Watch → Watch → Type 0
ShareIndex a b = (a.at.table ≡ b.at.table) × (a.at.index ≡ b.at.index)

-- they have this in common
abbrev pub Tied : Tie → Watch → Watch → Type 0
Tied ties.Question = AreLike
Tied ties.Index = ShareIndex

-- so are those at two places
abbrev pub AtBoth : (Watch → Watch → Type 0) → List Watch → ℕ → ℕ → Type 0
AtBoth Are ws i j =
    (a : Watch) × (b : Watch) × (slice_get ws i ≡ Some a) × (slice_get ws j ≡ Some b) × Are a b

-- so is one of those at some places, and the one at a place
abbrev pub OneOf : (Watch → Watch → Type 0) → List Watch → List ℕ → ℕ → Type 0
OneOf Are ws places at = (k : ℕ) × (k < length places) × AtBoth Are ws (slice_index places k) at

-- The watch at a place may be told to have left a set with this size: it is one member more, and none
-- like it was added before; or it has the cell of a member.
abbrev pub MayLeave : List Watch → Set → ℕ → ℕ → Type 0
MayLeave ws s at size =
    ((size ≡ length s.members.items + 1) × (OneOf AreLike ws s.added.items at → ⊥))
    ⊎ ((size ≡ length s.members.items) × OneOf ShareIndex ws s.members.items at)

-- the set's members then
abbrev pub members_then : List ℕ → ℕ → ℕ → List ℕ
members_then members at size =
    if nat_eq size (length members + 1) then members ++ at ∷ [] else members

-- sets with a watch added to the one at a place
pub record IsAddedTo (s : Set) (at size : ℕ) (old : List Set) (place : ℕ) (new : List Set) : Type 0 where
  pub set : Set
  pub kept : new ≡ slice_set old place set
  pub members : set.members.items ≡ members_then s.members.items at size
  pub added : set.added.items ≡ s.added.items ++ at ∷ []

-- a set without watches, at the end
pub record IsNewSet (name : Bytes) (old_names : List Bytes) (old : List Set) (names : List Bytes) (new : List Set) : Type 0 where
  pub set : Set
  pub named : names ≡ old_names ++ name ∷ []
  pub kept : new ≡ old ++ set ∷ []
  pub members : set.members.items ≡ []
  pub added : set.added.items ≡ []

-- how many members a set has, if it is there
abbrev pub member_count : Option Set → ℕ
member_count None = 0
member_count (Some s) = length s.members.items
