-- Calls that fail by their number, as the ends in memory do them.
use Rattle.std.specs.Prelude.{ℕ, List, [], ◌∷◌, Bool, true, false, Contains}
use Rattle.mdb_ports.specs.Faults.{one_more}

-- The next call after so many is one of those that fail. Calls are numbered from 1.
abbrev pub IsFailingCall : List ℕ → ℕ → Type 0
IsFailingCall fails calls = Contains fails (one_more calls)

-- no call fails
abbrev pub is_empty : List ℕ → Bool
is_empty [] = true
is_empty (call ∷ calls) = false
