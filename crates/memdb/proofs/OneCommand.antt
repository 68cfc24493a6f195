-- Words are one command at most.
use Rattle.std.proofs.Common.{◌≡◌, ◌∙◌, refl, sym, ap₂, List, Option, Some, None}
use Rattle.mdb_datum.specs.Bytes.{Bytes}
use Rattle.memdb.specs.Made.{Numbers}
use Rattle.memdb.specs.Words.{Checked, check_named, files_named, files_of, numbers_named, run_named}
use Rattle.memdb.specs.inner.CommandLine.{Asked, to_run, to_make, to_check}
use Rattle.memdb.specs.inner.CommandOf.{AreWords}
use Rattle.memdb.proofs.AskedWords.{check_part, make_part, run_part, words_asked}
use Rattle.run_io.specs.Named.{Named}

pub numbers_once : (words : List Bytes) (n : Numbers) → numbers_named words ≡ None → numbers_named words ≡ Some n → ⊥
numbers_once words n e f = let h : None ≡ Some n = sym e ∙ f in cc

-- those that name files are no numbers
pub one_command : (words : List Bytes) (named : Named) (n : Numbers) → files_named words ≡ Some named → numbers_named words ≡ Some n → ⊥
one_command words named n files make = let w = words_asked words in by_asked w.0 w.1
  where
    no_make : numbers_named words ≡ None → ⊥
    no_make none = numbers_once words n none make

    by_asked : (o : Option Asked) → AreWords words (run_part o) (make_part o) (check_part o) → ⊥
    by_asked (Some (to_run x)) w = no_make w.is_make
    by_asked (Some (to_make x)) w =
        let none : files_named words ≡ None = ap₂ files_of w.is_run w.is_check in
        let h : None ≡ Some named = sym none ∙ files in
        cc
    by_asked (Some (to_check x)) w = no_make w.is_make
    by_asked None w = no_make w.is_make

-- and `run` isn't `check`
pub run_or_check : (words : List Bytes) (named : Named) (files : Checked) → run_named words ≡ Some named → check_named words ≡ Some files → ⊥
run_or_check words named files run check = let w = words_asked words in by_asked w.0 w.1
  where
    no_run : run_named words ≡ None → ⊥
    no_run none = let h : None ≡ Some named = sym none ∙ run in cc

    by_asked : (o : Option Asked) → AreWords words (run_part o) (make_part o) (check_part o) → ⊥
    by_asked (Some (to_run x)) w = let h : None ≡ Some files = sym w.is_check ∙ check in cc
    by_asked (Some (to_make x)) w = no_run w.is_run
    by_asked (Some (to_check x)) w = no_run w.is_run
    by_asked None w = no_run w.is_run

-- a check names one list of files
pub checked_once : (command : Option Checked) (a b : Checked) → command ≡ Some a → command ≡ Some b → a ≡ b
checked_once command a b e f = let h : Some a ≡ Some b = sym e ∙ f in cc

-- the inputs of a check are those that the words name
pub check_inputs : (words : List Bytes) (files : Checked) → check_named words ≡ Some files → files_named words ≡ Some files.inputs
check_inputs words files check = by_run (run_named words) refl
  where
    by_run : (o : Option Named) → run_named words ≡ o → files_named words ≡ Some files.inputs
    by_run (Some named) run = absurd (run_or_check words named files run check)
    by_run None none = ap₂ files_of none check
