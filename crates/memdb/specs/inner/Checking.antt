-- What is answered to an output, where the inputs of a check are loaded.
use Rattle.std.specs.Prelude.{◌≡◌, ℕ, List, [], ◌∷◌, ◌++◌, length, Err, All, codes, decimal}
use Rattle.client_script.specs.declared.line.Line.{Line}
use Rattle.mdb_datum.specs.Bytes.{Bytes}
use Rattle.memdb.specs.Words.{Checked}
use Rattle.run_check.specs.Checked.{IsRead}
use Rattle.run_check.specs.Verdicts.{IsVerdict}
use Rattle.run_check.specs.declared.verdict.Verdict.{Verdict}
use Rattle.run_check.specs.declared.verdict.Verdict.TheVariants as verdicts
use Rattle.run_io.specs.Observed.{Observed, output_limit}
use Rattle.run_io.specs.OneFile.{LoadsFile, WasRead, bytes_of}
use Rattle.run_io.specs.Told.{TellsOutputError}
use Rattle.run_io.specs.declared.inputs.Inputs.{Inputs}
use Rattle.run_io.specs.declared.output_error.OutputError.{OutputError}

-- as many scripts as clients, each of which was read
pub record AreInputs (names : List Bytes) (scripts : List (List Line)) : Type 0 where
  pub named : length names ≡ length scripts
  pub read : All IsRead scripts

-- what is told of a verdict
abbrev pub TellsVerdict : Verdict → ℕ → Bytes → Type 0
TellsVerdict verdicts.Legal status text = (status ≡ 0) × (text ≡ codes "legal" ++ 10 ∷ [])
TellsVerdict (verdicts.Not line) status text =
    (status ≡ 10) × (text ≡ codes "line " ++ (decimal line ++ 10 ∷ []))

-- the verdict on these bytes is told
pub record TellsOf (inputs : Inputs) (names : List Bytes) (bytes : Bytes) (status : ℕ)
    (text : Bytes) : Type 0 where
  pub verdict : Verdict
  pub is : IsVerdict inputs.schema names inputs.scripts bytes verdict
  pub told : TellsVerdict verdict status text

-- the output was read, and the verdict is told; or why it wasn't read
pub data AnswersOutput (inputs : Inputs) (files : Checked) (seen : Observed) (status : ℕ)
    (text : Bytes) : Type 0 where
  judged : (bytes : Bytes) → WasRead output_limit seen files.output bytes
      → TellsOf inputs files.inputs.clients bytes status text
      → AnswersOutput inputs files seen status text
  unread : (e : OutputError) → LoadsFile bytes_of output_limit seen files.output (Err e)
      → TellsOutputError files.output e status text
      → AnswersOutput inputs files seen status text
