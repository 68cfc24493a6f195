-- The length of a compound key, before it is written.
use Rattle.std.specs.Prelude.{◌≡◌, [], ◌∷◌, ◌^◌, ◌-◌, ℕ, length, min, Option, Some, None, Result, Ok, Err}
use Rattle.mdb_encode.specs.Bytes.{Bytes}
use Rattle.mdb_encode.specs.Keys.{Keyed}
use Rattle.mdb_encode.specs.inner.Refusals.{key_refusal}
use Rattle.mdb_encode.specs.declared.refusal.KeyRefusal as of_row

-- a count, or the greatest that there is
abbrev pub counted : ℕ → ℕ
counted n = min n (2 ^ 64 - 1)

-- the length of the only key, where there is one; or the refusal
abbrev pub MeasuresKey : Keyed → Result (Option ℕ) of_row.KeyRefusal → Type 0
MeasuresKey k (Ok None) = k ≡ Ok []
MeasuresKey k (Ok (Some n)) = (key : Bytes) × (k ≡ Ok (key ∷ [])) × (n ≡ counted (length key))
MeasuresKey k (Err e) = k ≡ Err (key_refusal e)

-- there is a key, and no other
abbrev pub HasOneKey : Keyed → Type 0
HasOneKey k = (key : Bytes) × (k ≡ Ok (key ∷ []))
