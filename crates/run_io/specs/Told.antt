-- What is told of an error in loading.
use Rattle.std.specs.Prelude.{◌≡◌, ◌<◌, ℕ, List, [], slice_get, unwrap_or, codes, ⊤}
use Rattle.mdb_datum.specs.Bytes.{Bytes}
use Rattle.mdb_schema.specs.declared.error.SchemaError.TheVariants as schema_errors
use Rattle.run_io.specs.RefusalTexts.{name_line, broken_text, script_text}
use Rattle.run_io.specs.declared.load_error.LoadError.{LoadError}
use Rattle.run_io.specs.declared.load_error.LoadError.TheVariants.{Memory, Read, TooLarge, Schema, Script}
use Rattle.run_io.specs.declared.output_error.OutputError.{OutputError}
use Rattle.run_io.specs.declared.output_error.OutputError.TheVariants as unread

-- the file that an error names is one of so many
abbrev pub NamesFile : ℕ → LoadError → Type 0
NamesFile count (Read file) = file < count
NamesFile count (TooLarge file) = file < count
NamesFile count e = ⊤

-- the name of a file by its number
abbrev pub name_at : List Bytes → ℕ → Bytes
name_at names file = unwrap_or (slice_get names file) []

-- a status and a text, where the files have these names; want of memory is told by neither
abbrev pub TellsError : List Bytes → LoadError → ℕ → Bytes → Type 0
TellsError names Memory status text = ⊥
TellsError names (Read file) status text =
    (status ≡ 5) × (text ≡ name_line (codes "cannot read ") (name_at names file))
TellsError names (TooLarge file) status text =
    (status ≡ 7) × (text ≡ name_line (codes "too large ") (name_at names file))
TellsError names (Schema schema_errors.Memory) status text = ⊥
TellsError names (Schema (schema_errors.Broken r t i)) status text =
    (status ≡ 2) × (text ≡ broken_text (record { rule = r; table = t; index = i }))
TellsError names (Script client e) status text = (status ≡ 3) × (text ≡ script_text client e)

-- the same of an output's file of this name
abbrev pub TellsOutputError : Bytes → OutputError → ℕ → Bytes → Type 0
TellsOutputError name unread.Memory status text = ⊥
TellsOutputError name unread.Read status text =
    (status ≡ 5) × (text ≡ name_line (codes "cannot read ") name)
TellsOutputError name unread.TooLarge status text =
    (status ≡ 7) × (text ≡ name_line (codes "too large ") name)
