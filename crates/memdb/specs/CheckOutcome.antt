-- What `check` may answer where its inputs are lawful, and what it then writes. The command is none
-- where the words are no check.
use Rattle.std.specs.Prelude.{◌≡◌, ℕ, List, [], ◌∷◌, ◌++◌, Option, Some, Ok, codes, decimal}
use Rattle.client_script.specs.Legal.{Legal}
use Rattle.mdb_datum.specs.Bytes.{Bytes}
use Rattle.memdb.specs.Words.{Checked}
use Rattle.run_check.specs.FirstBad.{IsFirstBad}
use Rattle.run_io.specs.Inputs.{inputs_in}
use Rattle.run_io.specs.Named.{in_order}
use Rattle.run_io.specs.Observed.{Observed, AreWhole, output_limit}
use Rattle.run_io.specs.OneFile.{HasFailed, WasPast, WasRead}
use Rattle.run_io.specs.RefusalTexts.{name_line}
use Rattle.run_io.specs.declared.inputs.Inputs.{Inputs}

-- the command is a check whose schema and scripts were read whole, and are lawful
pub record HasInputs (command : Option Checked) (seen : Observed) : Type 0 where
  pub files : Checked
  pub is_check : command ≡ Some files
  pub schema : Bytes
  pub clients : List Bytes
  pub whole : AreWhole seen.told (in_order files.inputs) (schema ∷ clients)
  pub inputs : Inputs
  pub comes : inputs_in schema clients ≡ Ok inputs

-- the output of which it is asked was read whole too
pub record HasOutput (command : Option Checked) (seen : Observed) : Type 0 where
  pub lawful : HasInputs command seen
  pub output : Bytes
  pub read : WasRead output_limit seen lawful.files.output output

-- status 0: the output is legal for the inputs, where the clients' files have these names
pub record IsLegal (command : Option Checked) (seen : Observed) (text : Bytes) : Type 0 where
  pub of : HasOutput command seen
  pub legal : Legal of.lawful.inputs.schema of.lawful.files.inputs.clients of.lawful.inputs.scripts of.output
  pub says : text ≡ codes "legal" ++ 10 ∷ []

-- status 10: the output isn't legal, and the line that is told is the first bad one
pub record IsBad (command : Option Checked) (seen : Observed) (text : Bytes) : Type 0 where
  pub of : HasOutput command seen
  pub not_legal : Legal of.lawful.inputs.schema of.lawful.files.inputs.clients of.lawful.inputs.scripts of.output → ⊥
  pub line : ℕ
  pub first : IsFirstBad of.lawful.inputs.schema of.lawful.files.inputs.clients of.lawful.inputs.scripts of.output line
  pub says : text ≡ codes "line " ++ (decimal line ++ 10 ∷ [])

-- status 5: a call of the files failed, at the output; where only absent files fail, it isn't there
pub record CannotReadOutput (command : Option Checked) (seen : Observed) (text : Bytes)
    : Type 0 where
  pub lawful : HasInputs command seen
  pub cause : HasFailed seen lawful.files.output
  pub says : text ≡ name_line (codes "cannot read ") lawful.files.output

-- status 7: the output is too large
pub record OutputTooLarge (command : Option Checked) (seen : Observed) (text : Bytes)
    : Type 0 where
  pub lawful : HasInputs command seen
  pub cause : WasPast output_limit seen lawful.files.output
  pub says : text ≡ name_line (codes "too large ") lawful.files.output

-- the status of an output, and the text that is written under it
pub data ChecksAs (command : Option Checked) (seen : Observed) (status : ℕ) (text : Bytes)
    : Type 0 where
  legal : status ≡ 0 → IsLegal command seen text → ChecksAs command seen status text
  bad : status ≡ 10 → IsBad command seen text → ChecksAs command seen status text
  cannot_read : status ≡ 5 → CannotReadOutput command seen text → ChecksAs command seen status text
  too_large : status ≡ 7 → OutputTooLarge command seen text → ChecksAs command seen status text
