-- Reading the start of a UUID, a character at a time.
use Rattle.std.specs.Prelude.{◌≡◌, ◌∷◌, [], ◌++◌, ◌+◌, ◌*◌, ◌<◌, ◌≤◌, ◌==◌, ℕ, length, take, filter, not, Option, Some, None, IfSome, option_map, if◌then◌else◌}
use Rattle.uuid.specs.Text.{hyphen, is_hex_digit, value_of}
use Rattle.mdb_encode.specs.Bytes.{Bytes}
use Rattle.mdb_encode.specs.Arguments.{hex_bytes}
use Rattle.mdb_encode.specs.declared.fixed.Start.{Start}
use Rattle.mdb_encode.specs.declared.identifier.HexRun.{HexRun}

-- the characters that are no hyphens
abbrev pub digits_in : Bytes → Bytes
digits_in s = filter (λ c. not (c == hyphen)) s

-- the bytes that are meant
abbrev pub start_bytes : Start → Bytes
start_bytes s = take s.len s.bytes

-- the bytes of the digits to come, behind a first half of a byte
abbrev pub hex_from : Option ℕ → Bytes → Option Bytes
hex_from None ds = hex_bytes ds
hex_from (Some high) [] = None
hex_from (Some high) (d ∷ ds) = if is_hex_digit d
    then option_map (λ bytes. (16 * high + value_of d) ∷ bytes) (hex_bytes ds) else None

-- the bytes so far and those of the digits to come
abbrev pub hex_after : HexRun → Bytes → Option Bytes
hex_after run ds = option_map (λ more. take run.len run.bytes ++ more) (hex_from run.high ds)

-- how many digits of an unfinished byte there are
abbrev pub half_count : Option ℕ → ℕ
half_count None = 0
half_count (Some high) = 1

-- at most so many digits were read into 18 bytes
pub record IsRun (count : ℕ) (run : HexRun) : Type 0 where
  pub whole : length run.bytes ≡ 18
  pub read : 2 * run.len + half_count run.high ≤ count
  pub small : IfSome run.high (λ high. high < 16)
