-- What a fetch from an object's files gives.
use Rattle.std.specs.Prelude.{◌≡◌, ◌≤◌, ◌↔◌, ℕ, Bool, IsTrue, List, length, take, drop, Option, Some, None, IfSome, Result, IfOk}
use Rattle.mdb_ports.specs.declared.failed.Failed.{Failed}

-- the files that an object tells: the bytes under a name, where there is such a file
abbrev pub Contents : Type 0
Contents = List ℕ → Option (List ℕ)

-- n bytes of a file from an offset on lie at the front of a buffer; none exactly where the offset
-- is at or past the end
pub record Fetched (bytes : List ℕ) (at : ℕ) (buffer : List ℕ) (n : ℕ) : Type 0 where
  pub held : take n buffer ≡ take n (drop at bytes)
  pub there : n ≤ length (drop at bytes)
  pub at_end : (n ≡ 0) ↔ (length bytes ≤ at)

-- what a fetch gives where the object tells its files: an absent file gives nothing
abbrev pub Fetches : Option Contents → List ℕ → ℕ → List ℕ → Result ℕ Failed → Type 0
Fetches told name at buffer result =
    IfSome told (λ files. IfOk result
    (λ n. (bytes : List ℕ) × (files name ≡ Some bytes) × Fetched bytes at buffer n))

-- where the object fails for absent files alone, and tells its files, there is none of this name
abbrev pub IsAbsentIfReliable : Bool → Option Contents → List ℕ → Type 0
IsAbsentIfReliable reliable told name = IsTrue reliable → IfSome told (λ files. files name ≡ None)

-- what an object tells that doesn't tell its files
abbrev pub untold : Option Contents
untold = None
