-- What the reading of files whole comes to.
use Rattle.std.specs.Prelude.{◌≡◌, ◌+◌, ℕ, List, [], ◌∷◌, ◌++◌, map, Result, Ok, Err, Vec}
use Rattle.std.specs.declared.alloc.Global.{Global}
use Rattle.mdb_datum.specs.Bytes.{Bytes}
use Rattle.run_io.specs.Loads.{IsUnread, IsPastLimit}
use Rattle.run_io.specs.Observed.{Observed, IsWhole, AreWhole}
use Rattle.run_io.specs.declared.load_error.LoadError.{LoadError}
use Rattle.run_io.specs.declared.load_error.LoadError.TheVariants.{Memory, Read, TooLarge, Schema, Script}
use Rattle.run_io.specs.declared.output_error.OutputError.{OutputError}
use Rattle.run_io.specs.declared.output_error.OutputError.TheVariants as one_file

-- the error at the file of this number
abbrev pub numbered : ℕ → OutputError → LoadError
numbered file one_file.Memory = Memory
numbered file one_file.Read = Read file
numbered file one_file.TooLarge = TooLarge file

-- the bytes of one file, and of several
abbrev pub content_of : Vec ℕ Global → List Bytes
content_of bytes = bytes.items ∷ []

abbrev pub contents_in : Vec (Vec ℕ Global) Global → List Bytes
contents_in contents = map (λ bytes. bytes.items) contents.items

-- The files of these names, which are numbered from `first`, were read in their order, and are
-- whole; or memory was wanted; or a file couldn't be read, or was too large. `contents` are the
-- bytes that were read, file by file. Only a failed call is a fault.
abbrev pub Reads : {T : Type 0} → (T → List Bytes) → Observed → ℕ → List Bytes → Result T LoadError
    → Type 0
Reads contents seen first names (Ok x) =
    (seen.now ≡ seen.before) × AreWhole seen.told names (contents x)
Reads contents seen first names (Err Memory) = seen.now ≡ seen.before
Reads contents seen first names (Err (Read file)) =
    (at : ℕ) × (file ≡ first + at) × IsUnread seen names at
Reads contents seen first names (Err (TooLarge file)) =
    (at : ℕ) × (file ≡ first + at) × IsPastLimit seen names at
Reads contents seen first names (Err (Schema e)) = ⊥
Reads contents seen first names (Err (Script client e)) = ⊥

-- The file of this name was read, and its bytes stand at the end of a list; or the list is as it
-- was, and the reading came to the same error.
abbrev pub AddsFile : Observed → ℕ → Bytes → List (Vec ℕ Global) → List (Vec ℕ Global)
    → Result (Unit {0}) LoadError → Type 0
AddsFile seen file name before after (Ok done) =
    (bytes : Vec ℕ Global) × (after ≡ before ++ bytes ∷ [])
    × (seen.now ≡ seen.before) × IsWhole seen.told name bytes.items
AddsFile seen file name before after (Err e) =
    (after ≡ before) × Reads content_of seen file (name ∷ []) (Err e)
