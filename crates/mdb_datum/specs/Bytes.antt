-- Byte strings: their order, and which of them begin which.
use Rattle.std.specs.Prelude.{ℕ, List, [], ◌∷◌, Bool, true, false, ◌&&◌, nat_eq}
use Rattle.std.specs.Cmp.Lexicographic.{slice_cmp}
use Rattle.std.specs.Ordering.{nat_cmp}
use Rattle.std.specs.declared.cmp.Ordering.{Ordering}

abbrev pub Bytes : Type 0
Bytes = List ℕ

-- byte by byte, and a proper prefix comes first
abbrev pub byte_order : Bytes → Bytes → Ordering
byte_order = slice_cmp nat_cmp

-- the second is the first followed by something, perhaps nothing
abbrev pub is_prefix : Bytes → Bytes → Bool
is_prefix [] bytes = true
is_prefix (a ∷ prefix) [] = false
is_prefix (a ∷ prefix) (b ∷ bytes) = nat_eq a b && is_prefix prefix bytes
