-- What the loading of one file comes to: its bytes, or why they can't be had.
use Rattle.std.specs.Prelude.{◌≡◌, ℕ, Option, Result, Ok, Err, Vec}
use Rattle.std.specs.declared.alloc.Global.{Global}
use Rattle.mdb_datum.specs.Bytes.{Bytes}
use Rattle.mdb_ports.specs.Faults.{Rose}
use Rattle.mdb_ports.specs.Files.{Contents, IsAbsentIfReliable}
use Rattle.run_io.specs.Observed.{Observed, IsWholeWithin, IsPast, IsAbsent}
use Rattle.run_io.specs.declared.output_error.OutputError.{OutputError}
use Rattle.run_io.specs.declared.output_error.OutputError.TheVariants.{Memory, Read, TooLarge}

-- the file of this name has these bytes, within the limit, and no call failed
pub record WasRead (limit : ℕ) (seen : Observed) (name bytes : Bytes) : Type 0 where
  pub whole : IsWholeWithin limit seen.told name bytes
  pub no_fault : seen.now ≡ seen.before

-- a call failed; where only absent files fail, there is no file of this name
pub record HasFailed (seen : Observed) (name : Bytes) : Type 0 where
  pub rose : Rose seen.before seen.now
  pub absent : IsAbsentIfReliable seen.reliable seen.told name

-- the file of this name has more bytes, and no call failed
pub record WasPast (limit : ℕ) (seen : Observed) (name : Bytes) : Type 0 where
  pub large : IsPast limit seen.told name
  pub no_fault : seen.now ≡ seen.before

-- the answer to a file of this name that may have so many bytes; `content` are those that were read
abbrev pub LoadsFile :
    {T : Type 0} → (T → Bytes) → ℕ → Observed → Bytes → Result T OutputError → Type 0
LoadsFile content limit seen name (Ok x) = WasRead limit seen name (content x)
LoadsFile content limit seen name (Err Memory) = seen.now ≡ seen.before
LoadsFile content limit seen name (Err Read) = HasFailed seen name
LoadsFile content limit seen name (Err TooLarge) = WasPast limit seen name

-- the bytes of a vector, and of an answer
abbrev pub bytes_of : Vec ℕ Global → Bytes
bytes_of bytes = bytes.items

abbrev pub answered_bytes : Result (Vec ℕ Global) OutputError → Result Bytes OutputError
answered_bytes (Ok bytes) = Ok bytes.items
answered_bytes (Err e) = Err e

-- What leads to an answer to the file of this name. Only an excuse, and want of memory, may come in
-- its place.
pub data LeadsToBytes (limit : ℕ) (told : Option Contents) (name : Bytes)
    (answer : Result Bytes OutputError) : Type 0 where
  -- it isn't there
  absent : IsAbsent told name → answer ≡ Err Read → LeadsToBytes limit told name answer
  -- it is too large
  too_large : IsPast limit told name → answer ≡ Err TooLarge → LeadsToBytes limit told name answer
  -- it is whole
  whole : (bytes : Bytes) → IsWholeWithin limit told name bytes → answer ≡ Ok bytes
      → LeadsToBytes limit told name answer
