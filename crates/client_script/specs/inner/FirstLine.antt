-- The lines of a file, as they are found one after the other.
use Rattle.std.specs.Prelude.{◌==◌, ◌||◌, ◌-◌, ℕ, [], ◌∷◌, length, slice_index, Bool, true, if◌then◌else◌, Option, Some, None}
use Rattle.std.specs.List.{before_first, after_first}
use Rattle.mdb_datum.specs.Bytes.{Bytes}

-- the first line without its line feed, and what follows it
abbrev pub first_line : Bytes → Option (Bytes × Bytes)
first_line bs =
    let is_feed : ℕ → Bool = λ b. b == 10 in
    if length bs == 0 then None else Some (before_first is_feed bs, after_first is_feed bs)

-- no line is left without its line feed
abbrev pub is_ended : Bytes → Bool
is_ended bs = (length bs == 0) || (slice_index bs (length bs - 1) == 10)

-- a line without blanks at its ends has no command
abbrev pub is_silent : Bytes → Bool
is_silent [] = true
is_silent (b ∷ bs) = b == 35
