-- What the loading of files comes to, by its answer.
use Rattle.std.specs.Prelude.{◌≡◌, ℕ, List, ◌∷◌, Result, Ok, Err}
use Rattle.mdb_datum.specs.Bytes.{Bytes}
use Rattle.mdb_ports.specs.Faults.{Rose}
use Rattle.mdb_ports.specs.Files.{IsAbsentIfReliable}
use Rattle.run_io.specs.Inputs.{inputs_in}
use Rattle.run_io.specs.Observed.{Observed, AreWhole, IsReached, IsTooLarge}
use Rattle.run_io.specs.declared.inputs.Inputs.{Inputs}
use Rattle.run_io.specs.declared.load_error.LoadError.{LoadError}
use Rattle.run_io.specs.declared.load_error.LoadError.TheVariants.{Memory, Read, TooLarge, Schema, Script}

-- the files of these names were read whole, without a fault: the schema's bytes, and the clients'
pub record WereRead (seen : Observed) (names : List Bytes) (schema : Bytes) (clients : List Bytes)
    : Type 0 where
  pub whole : AreWhole seen.told names (schema ∷ clients)
  pub no_fault : seen.now ≡ seen.before

-- the answer is what the bytes of the files read as
pub record IsRead (seen : Observed) (names : List Bytes) (answer : Result Inputs LoadError)
    : Type 0 where
  pub schema : Bytes
  pub clients : List Bytes
  pub read : WereRead seen names schema clients
  pub comes : inputs_in schema clients ≡ answer

-- a call failed, at this file; where only absent files fail, it isn't there
pub record IsUnread (seen : Observed) (names : List Bytes) (file : ℕ) : Type 0 where
  pub name : Bytes
  pub reached : IsReached seen.told names file name
  pub rose : Rose seen.before seen.now
  pub absent : IsAbsentIfReliable seen.reliable seen.told name

-- this file is the first that is too large, and no call failed
pub record IsPastLimit (seen : Observed) (names : List Bytes) (file : ℕ) : Type 0 where
  pub name : Bytes
  pub reached : IsReached seen.told names file name
  pub large : IsTooLarge seen.told name
  pub no_fault : seen.now ≡ seen.before

-- the answer to the files of these names, the schema's and then the clients'
abbrev pub Loads : Observed → List Bytes → Result Inputs LoadError → Type 0
Loads seen names (Ok inputs) = IsRead seen names (Ok inputs)
Loads seen names (Err Memory) = seen.now ≡ seen.before
Loads seen names (Err (Read file)) = IsUnread seen names file
Loads seen names (Err (TooLarge file)) = IsPastLimit seen names file
Loads seen names (Err (Schema e)) = IsRead seen names (Err (Schema e))
Loads seen names (Err (Script client e)) = IsRead seen names (Err (Script client e))
