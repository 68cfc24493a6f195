-- When the files that a command names are refused, and when they are lawful: where a cause is there,
-- nothing else is answered but want of memory and a failed write.
use Rattle.std.specs.Prelude.{◌≡◌, ℕ, List, ◌∷◌, Option, Some, Result, Ok, Err}
use Rattle.client_script.specs.declared.script_error.ScriptError.{ScriptError}
use Rattle.mdb_datum.specs.Bytes.{Bytes}
use Rattle.mdb_schema.specs.Broken.{Broken}
use Rattle.run_io.specs.Causes.{HasNoExcuse}
use Rattle.run_io.specs.Inputs.{inputs_in, schema_error}
use Rattle.run_io.specs.Named.{Named, in_order}
use Rattle.run_io.specs.Observed.{Observed, AreWhole, IsReached, IsTooLarge, IsAbsent}
use Rattle.run_io.specs.declared.inputs.Inputs.{Inputs}
use Rattle.run_io.specs.declared.load_error.LoadError.{LoadError}
use Rattle.run_io.specs.declared.load_error.LoadError.TheVariants.{Schema, Script}

-- the command names files that are whole, and their bytes come to this: a schema and scripts, or the
-- first rule that they break
pub record Finds (command : Option Named) (seen : Observed) (named : Named)
    (read : Result Inputs LoadError) : Type 0 where
  pub is_named : command ≡ Some named
  pub schema : Bytes
  pub clients : List Bytes
  pub whole : AreWhole seen.told (in_order named) (schema ∷ clients)
  pub comes : inputs_in schema clients ≡ read

-- the command names files of which the one of this name is reached
pub record Reaches (command : Option Named) (seen : Observed) (named : Named) (name : Bytes)
    : Type 0 where
  pub is_named : command ≡ Some named
  pub file : ℕ
  pub reached : IsReached seen.told (in_order named) file name

-- what calls for the status of a refusal
pub data CallsForRefusal (command : Option Named) (seen : Observed) (status : ℕ) : Type 0 where
  -- a file isn't there
  absent : status ≡ 5 → (named : Named) (name : Bytes) → Reaches command seen named name
      → IsAbsent seen.told name → CallsForRefusal command seen status
  -- a file is too large
  too_large : status ≡ 7 → (named : Named) (name : Bytes) → Reaches command seen named name
      → IsTooLarge seen.told name → HasNoExcuse seen → CallsForRefusal command seen status
  -- the schema breaks a rule
  broken : status ≡ 2 → (named : Named) (rule : Broken)
      → Finds command seen named (Err (Schema (schema_error rule))) → HasNoExcuse seen
      → CallsForRefusal command seen status
  -- the schema is lawful, and a script breaks a rule
  broken_script : status ≡ 3 → (named : Named) (client : ℕ) (rule : ScriptError)
      → Finds command seen named (Err (Script client rule)) → HasNoExcuse seen
      → CallsForRefusal command seen status

-- the command's files are read as a lawful schema and lawful scripts
pub record AreLawful (command : Option Named) (seen : Observed) : Type 0 where
  pub named : Named
  pub inputs : Inputs
  pub finds : Finds command seen named (Ok inputs)
  pub no_excuse : HasNoExcuse seen
