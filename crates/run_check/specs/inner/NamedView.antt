-- Values under names, as plain lists: of names, and of their values.
use Rattle.std.specs.Prelude.{ℕ, suc, List, [], ◌∷◌, Option, Some, None, if◌then◌else◌, option_and_then, option_map, slice_get}
use Rattle.std.specs.Str.{bytes_eq}
use Rattle.mdb_datum.specs.Bytes.{Bytes}

-- the place of the first of a name
abbrev pub place_in : Bytes → List Bytes → Option ℕ
place_in name [] = None
place_in name (n ∷ ns) = if bytes_eq n name then Some 0 else option_map suc (place_in name ns)

-- the value of a name
abbrev pub value_named : {A : Type 0} → Bytes → List Bytes → List A → Option A
value_named name ns vs = option_and_then (slice_get vs) (place_in name ns)

-- each value with its name
abbrev pub each_named : {A B : Type 0} → (Bytes → A → B) → List Bytes → List A → List B
each_named f (n ∷ ns) (v ∷ vs) = f n v ∷ each_named f ns vs
each_named f ns vs = []
