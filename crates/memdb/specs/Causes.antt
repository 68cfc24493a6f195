-- When a status comes: where its cause is there, nothing else is answered but want of memory and a
-- failed write. An output that is checked may be legal, or not.
use Rattle.std.specs.Prelude.{◌≡◌, ◌==◌, ℕ, List, [], ◌∷◌, if◌then◌else◌, Option, Some, None, Ok}
use Rattle.mdb_datum.specs.Bytes.{Bytes}
use Rattle.memdb.specs.Made.{Numbers}
use Rattle.memdb.specs.Words.{Checked, check_named, files_named, numbers_named, run_named}
use Rattle.run_io.specs.Causes.{HasNoExcuse}
use Rattle.run_io.specs.Observed.{Observed, IsAbsent, IsPast, IsWholeWithin, output_limit}
use Rattle.run_io.specs.RefusalCauses.{AreLawful, CallsForRefusal, Finds}
use Rattle.run_io.specs.Statuses.{HasOneCause}
use Rattle.run_io.specs.declared.inputs.Inputs.{Inputs}

-- the command is a check whose schema and scripts are lawful
pub record FindsInputs (command : Option Checked) (seen : Observed) : Type 0 where
  pub files : Checked
  pub is_check : command ≡ Some files
  pub inputs : Inputs
  pub finds : Finds (Some files.inputs) seen files.inputs (Ok inputs)

-- what calls for a status; that of an output which is checked is told as 10
pub data CallsFor (words : List Bytes) (seen : Observed) (status : ℕ) : Type 0 where
  -- the words are no command
  no_command : status ≡ 1 → files_named words ≡ None → numbers_named words ≡ None
      → CallsFor words seen status
  -- the inputs of `run` or `check` call for a refusal: 2, 3, 5 or 7
  refused : CallsForRefusal (files_named words) seen status → CallsFor words seen status
  -- clients are made from the numbers that the words are
  made : status ≡ 0 → (numbers : Numbers) → numbers_named words ≡ Some numbers
      → CallsFor words seen status
  -- the schema and the scripts of `run` are lawful
  lawful : status ≡ 0 → AreLawful (run_named words) seen → CallsFor words seen status
  -- those of `check` are, and the output isn't there
  no_output : status ≡ 5 → (of : FindsInputs (check_named words) seen)
      → IsAbsent seen.told of.files.output → CallsFor words seen status
  -- or is too large
  large_output : status ≡ 7 → (of : FindsInputs (check_named words) seen)
      → IsPast output_limit seen.told of.files.output → HasNoExcuse seen
      → CallsFor words seen status
  -- or is whole
  output : status ≡ 10 → (of : FindsInputs (check_named words) seen) (bytes : Bytes)
      → IsWholeWithin output_limit seen.told of.files.output bytes → HasNoExcuse seen
      → CallsFor words seen status

-- what is answered where a status is called for: any memory may be wanting, any write may fail, and an
-- output that is checked may be legal
abbrev pub statuses_for : ℕ → List ℕ
statuses_for status = status ∷ 4 ∷ 6 ∷ (if status == 10 then 0 ∷ [] else [])

-- no two statuses are called for
abbrev pub NoTwoCauses : Type 0
NoTwoCauses = (words : List Bytes) (seen : Observed) (s t : ℕ)
    → CallsFor words seen s → CallsFor words seen t → s ≡ t

-- where the files tell their bytes, and no read fails but of a file that isn't there, one status is
-- called for, and no other
abbrev pub OneCauseWhereTold : Type 0
OneCauseWhereTold = (words : List Bytes) (seen : Observed) → HasNoExcuse seen
    → HasOneCause (0 ∷ 1 ∷ 2 ∷ 3 ∷ 5 ∷ 7 ∷ 10 ∷ []) (CallsFor words seen)
