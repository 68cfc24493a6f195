-- What is answered to the files that a command names: they were read, and this holds of the text;
-- or they are refused, with a text for each status and its cause. The command is none where the
-- words name no files.
use Rattle.std.specs.Prelude.{◌≡◌, ℕ, List, Option, Some, Result, Ok, Err, codes}
use Rattle.client_script.specs.declared.line.Line.{Line}
use Rattle.client_script.specs.declared.script_error.ScriptError.{ScriptError}
use Rattle.mdb_datum.specs.Bytes.{Bytes}
use Rattle.mdb_schema.specs.Broken.{Broken}
use Rattle.mdb_schema.specs.Schema.{DbSchema}
use Rattle.run_io.specs.Inputs.{schema_error}
use Rattle.run_io.specs.Loads.{IsRead, IsUnread, IsPastLimit}
use Rattle.run_io.specs.Named.{Named, in_order}
use Rattle.run_io.specs.Observed.{Observed}
use Rattle.run_io.specs.RefusalTexts.{name_line, broken_text, script_text}
use Rattle.run_io.specs.declared.inputs.Inputs.{Inputs}
use Rattle.run_io.specs.declared.load_error.LoadError.{LoadError}
use Rattle.run_io.specs.declared.load_error.LoadError.TheVariants.{Schema, Script}

-- the command names files that were read whole without a fault, and their bytes come to this: a
-- schema and scripts, or the first rule that they break
pub record ReadAs (command : Option Named) (seen : Observed) (named : Named)
    (read : Result Inputs LoadError) : Type 0 where
  pub is_named : command ≡ Some named
  pub reads : IsRead seen (in_order named) read

-- the files were read as a schema and scripts, and this holds of the schema, of the names of the
-- clients' files, of the scripts and of the text
pub record Answered (command : Option Named) (seen : Observed)
    (P : DbSchema → List Bytes → List (List Line) → Bytes → Type 0) (text : Bytes) : Type 0 where
  pub named : Named
  pub inputs : Inputs
  pub read : ReadAs command seen named (Ok inputs)
  pub holds : P inputs.schema named.clients inputs.scripts text

-- status 2: the schema breaks the rule that is told, the first that it breaks
pub record BrokenSchema (command : Option Named) (seen : Observed) (text : Bytes) : Type 0 where
  pub named : Named
  pub rule : Broken
  pub read : ReadAs command seen named (Err (Schema (schema_error rule)))
  pub says : text ≡ broken_text rule

-- status 3: the schema is lawful, and a script breaks the rule that is told, the first that any
-- client's breaks
pub record BrokenScript (command : Option Named) (seen : Observed) (text : Bytes) : Type 0 where
  pub named : Named
  pub client : ℕ
  pub rule : ScriptError
  pub read : ReadAs command seen named (Err (Script client rule))
  pub says : text ≡ script_text client rule

-- status 5: a call of the files failed, at the file that is told; where only absent files fail, it
-- isn't there
pub record CannotRead (command : Option Named) (seen : Observed) (text : Bytes) : Type 0 where
  pub named : Named
  pub is_named : command ≡ Some named
  pub file : ℕ
  pub cause : IsUnread seen (in_order named) file
  pub says : text ≡ name_line (codes "cannot read ") cause.name

-- status 7: the file that is told is the first that is too large
pub record TooLarge (command : Option Named) (seen : Observed) (text : Bytes) : Type 0 where
  pub named : Named
  pub is_named : command ≡ Some named
  pub file : ℕ
  pub cause : IsPastLimit seen (in_order named) file
  pub says : text ≡ name_line (codes "too large ") cause.name

-- the status under which the files are refused, and the text that is written under it
pub data IsRefused (command : Option Named) (seen : Observed) (status : ℕ) (text : Bytes)
    : Type 0 where
  broken_schema : status ≡ 2 → BrokenSchema command seen text → IsRefused command seen status text
  broken_script : status ≡ 3 → BrokenScript command seen text → IsRefused command seen status text
  cannot_read : status ≡ 5 → CannotRead command seen text → IsRefused command seen status text
  too_large : status ≡ 7 → TooLarge command seen text → IsRefused command seen status text
