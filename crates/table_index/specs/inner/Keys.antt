-- The keys of a row as a write reads them.
use Rattle.std.specs.Prelude.{◌≡◌, ◌≤◌, length, Result, Ok, Err}
use Rattle.mdb_encode.specs.Bytes.{Bytes}
use Rattle.mdb_schema.specs.ErrorsTold.{TellsRefusal}
use Rattle.mdb_schema.specs.Write.{Tested}
use Rattle.mdb_schema.specs.declared.write_error.WriteError.{WriteError}

-- a key has at most 1,024 bytes
abbrev pub IsShort : Bytes → Type 0
IsShort k = length k ≤ 1024

-- the answer is what the definition gives, or an error that tells why it isn't
abbrev pub IsTestedResult : {A : Type 0} → Tested A → Result A WriteError → Type 0
IsTestedResult told (Ok x) = told ≡ Ok x
IsTestedResult told (Err e) = TellsRefusal told e
