-- What a command stands for, as the code holds it.
use Rattle.std.specs.Prelude.{◌≡◌, List, Option, Some, None}
use Rattle.mdb_datum.specs.Bytes.{Bytes}
use Rattle.memdb.specs.Made.{Numbers}
use Rattle.memdb.specs.Words.{Checked, check_named, numbers_named, run_named}
use Rattle.memdb.specs.inner.CommandLine.{Asked, to_run, to_make, to_check}
use Rattle.memdb.specs.declared.words.Command.{Command}
use Rattle.memdb.specs.declared.words.Command.TheVariants.{Run, Make, Check}
use Rattle.memdb.specs.declared.words.checked.CheckedFiles.{CheckedFiles}
use Rattle.run_io.specs.Named.{Named}
use Rattle.run_io.specs.NamedOf.{named_of}

abbrev pub checked_of : CheckedFiles → Checked
checked_of c = record { inputs = named_of c.inputs; output = c.output }

abbrev pub asked_of : Command → Asked
asked_of (Run named) = to_run (named_of named)
asked_of (Make numbers) = to_make numbers
asked_of (Check files) = to_check (checked_of files)

-- what words are: each command, or none
pub record AreWords (words : List Bytes) (run : Option Named) (make : Option Numbers)
    (check : Option Checked) : Type 0 where
  pub is_run : run_named words ≡ run
  pub is_make : numbers_named words ≡ make
  pub is_check : check_named words ≡ check

-- the command that words are, or that they are none
abbrev pub IsCommandOf : List Bytes → Option Command → Type 0
IsCommandOf words (Some (Run named)) = AreWords words (Some (named_of named)) None None
IsCommandOf words (Some (Make numbers)) = AreWords words None (Some numbers) None
IsCommandOf words (Some (Check files)) = AreWords words None None (Some (checked_of files))
IsCommandOf words None = AreWords words None None None
