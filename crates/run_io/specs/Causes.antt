-- When an answer comes: where its cause is there, nothing else is answered but want of memory.
use Rattle.std.specs.Prelude.{◌≡◌, ◌⊎◌, ℕ, IsTrue, IsSome, List, ◌∷◌, Option, Result, Err}
use Rattle.mdb_datum.specs.Bytes.{Bytes}
use Rattle.mdb_ports.specs.Faults.{Rose}
use Rattle.mdb_ports.specs.Files.{Contents}
use Rattle.run_io.specs.Inputs.{inputs_in}
use Rattle.run_io.specs.Observed.{Observed, AreWhole, IsReached, IsTooLarge, IsAbsent}
use Rattle.run_io.specs.declared.inputs.Inputs.{Inputs}
use Rattle.run_io.specs.declared.load_error.LoadError.{LoadError}
use Rattle.run_io.specs.declared.load_error.LoadError.TheVariants.{Read, TooLarge}

-- the files tell what they hold, and no fault excuses the reading: the count of faults didn't rise,
-- or only absent files fail
pub record HasNoExcuse (seen : Observed) : Type 0 where
  pub tells : IsSome seen.told
  pub no_fault : (Rose seen.before seen.now → ⊥) ⊎ IsTrue seen.reliable

-- What leads to an answer to the files of these names, the schema's and then the clients'. Only an
-- excuse, and want of memory, may come in its place.
pub data LeadsTo (told : Option Contents) (names : List Bytes) (answer : Result Inputs LoadError)
    : Type 0 where
  -- a file that is reached isn't there
  absent : (file : ℕ) (name : Bytes) → IsReached told names file name → IsAbsent told name
      → answer ≡ Err (Read file) → LeadsTo told names answer
  -- a file that is reached is too large
  too_large : (file : ℕ) (name : Bytes) → IsReached told names file name → IsTooLarge told name
      → answer ≡ Err (TooLarge file) → LeadsTo told names answer
  -- all files are whole, and their bytes come to it
  whole : (schema : Bytes) (clients : List Bytes) → AreWhole told names (schema ∷ clients)
      → answer ≡ inputs_in schema clients → LeadsTo told names answer
