-- Which of some places is the first whose name a text begins with.
use Rattle.std.specs.Prelude.{◌≡◌, ◌<◌, ℕ, List, length, Option, Some, None, slice_get, slice_index}
use Rattle.mdb_datum.specs.Bytes.{Bytes}
use Rattle.run_check.specs.TextLines.{behind}
use Rattle.run_check.specs.declared.member.Woken.{Woken}
use Rattle.run_check.specs.inner.Decided.{HasName}

-- bytes begin with the name at a place, a blank and an `@`
abbrev pub HasNameAt : List Bytes → Bytes → ℕ → Type 0
HasNameAt names bs place =
    (name : Bytes) × (after : Bytes) × (slice_get names place ≡ Some name) × HasName name bs after

-- so is none of the first `k` places
abbrev pub NoneBefore : (ℕ → Type 0) → List ℕ → ℕ → Type 0
NoneBefore Is places k = (q : ℕ) → q < k → Is (slice_index places q) → ⊥

-- the first place that is so, by where it stands among them; or none is so
abbrev pub IsFirst : (ℕ → Type 0) → List ℕ → Option ℕ → Type 0
IsFirst Is places (Some k) =
    (k < length places) × Is (slice_index places k) × NoneBefore Is places k
IsFirst Is places None = NoneBefore Is places (length places)

-- ---- with its name, and what bytes have behind that

-- the member of the name at a place, if bytes begin with that, a blank and an `@`
abbrev pub TellsAt : List Bytes → Bytes → ℕ → ℕ → Option Woken → Type 0
TellsAt names bs member place (Some w) =
    (w.place ≡ member) × (slice_get names place ≡ Some w.name.now)
    × (behind w.name.now bs ≡ Some w.behind.now) × HasNameAt names bs place
TellsAt names bs member place None = HasNameAt names bs place → ⊥

-- the first such member, of those at these places
abbrev pub FirstWoken : List Bytes → Bytes → List ℕ → Option Woken → Type 0
FirstWoken names bs places (Some w) =
    IsFirst (HasNameAt names bs) places (Some w.place)
    × (slice_get names (slice_index places w.place) ≡ Some w.name.now)
    × (behind w.name.now bs ≡ Some w.behind.now)
FirstWoken names bs places None = IsFirst (HasNameAt names bs) places None
