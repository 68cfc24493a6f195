-- Declared names: 1 to 64 bytes of a-z A-Z 0-9 _ -, and no `_prefix` at the end, which a question
-- puts there.
use Rattle.std.specs.Prelude.{◌&&◌, ◌||◌, ◌==◌, ℕ, length, Bool, not, nat_lt, nat_le, nat_eq, codes}
use Rattle.std.specs.List.{ends_with, list_all}
use Rattle.std.specs.Int.{is_in_range}
use Rattle.mdb_encode.specs.Bytes.{Bytes}

abbrev pub is_name_byte : ℕ → Bool
is_name_byte b =
    is_in_range 97 122 b || is_in_range 65 90 b || is_in_range 48 57 b || (b == 95) || (b == 45)

-- a word of a client file: as a declared name, but that `_prefix` may stand at its end
abbrev pub is_word : Bytes → Bool
is_word s = nat_lt 0 (length s) && nat_le (length s) 64 && list_all is_name_byte s

abbrev pub is_declared_name : Bytes → Bool
is_declared_name s = is_word s && not (ends_with nat_eq s (codes "_prefix"))
