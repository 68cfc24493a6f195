-- What is observed of files that are read in order, and what they give: each file whole, or the
-- first that can't be had.
use Rattle.std.specs.Prelude.{◌≡◌, ◌<◌, ◌≤◌, ℕ, zero, suc, Bool, List, [], ◌∷◌, length, Option, Some, None, IfSome}
use Rattle.mdb_datum.specs.Bytes.{Bytes}
use Rattle.mdb_ports.specs.Files.{Contents}

-- what the files hold, where the object tells it; whether only absent files fail there; and how
-- many calls have failed, before and after
pub record Observed : Type 0 where
  pub told : Option Contents
  pub reliable : Bool
  pub before : ℕ
  pub now : ℕ

abbrev pub observed : Option Contents → Bool → ℕ → ℕ → Observed
observed told reliable before now =
    record { told = told; reliable = reliable; before = before; now = now }

-- the files are as before, and their count of faults hasn't fallen
pub record Stays (seen : Observed) (told : Option Contents) (reliable : Bool) : Type 0 where
  pub same_files : told ≡ seen.told
  pub same_reliance : reliable ≡ seen.reliable
  pub later : seen.before ≤ seen.now

-- the most bytes of a schema's file and of a client's, and of an output's
abbrev pub file_limit : ℕ
file_limit = 1048576

abbrev pub output_limit : ℕ
output_limit = 16777216

-- a file of these bytes, which are within a limit; where the files are told, it is there
pub record IsWholeWithin (limit : ℕ) (told : Option Contents) (name bytes : Bytes)
    : Type 0 where
  pub there : IfSome told (λ files. files name ≡ Some bytes)
  pub fits : length bytes ≤ limit

-- a file of more bytes; where the files are told, it is there
pub record IsPast (limit : ℕ) (told : Option Contents) (name : Bytes) : Type 0 where
  pub bytes : Bytes
  pub there : IfSome told (λ files. files name ≡ Some bytes)
  pub longer : limit < length bytes

-- a schema's file or a client's
abbrev pub IsWhole : Option Contents → Bytes → Bytes → Type 0
IsWhole told name bytes = IsWholeWithin file_limit told name bytes

abbrev pub IsTooLarge : Option Contents → Bytes → Type 0
IsTooLarge told name = IsPast file_limit told name

-- a file that isn't there, where the files are told
pub record IsAbsent (told : Option Contents) (name : Bytes) : Type 0 where
  pub files : Contents
  pub tells : told ≡ Some files
  pub none : files name ≡ None

-- the files of these names are whole, each with its bytes
abbrev pub AreWhole : Option Contents → List Bytes → List Bytes → Type 0
AreWhole told [] [] = Unit {0}
AreWhole told [] (bytes ∷ contents) = ⊥
AreWhole told (name ∷ names) [] = ⊥
AreWhole told (name ∷ names) (bytes ∷ contents) =
    IsWhole told name bytes × AreWhole told names contents

-- Files are read in this order, up to the one at this place, counted from 0, which has this name:
-- those before it are whole.
abbrev pub IsReached : Option Contents → List Bytes → ℕ → Bytes → Type 0
IsReached told [] file name = ⊥
IsReached told (n ∷ ns) zero name = name ≡ n
IsReached told (n ∷ ns) (suc file) name =
    (bytes : Bytes) × IsWhole told n bytes × IsReached told ns file name
