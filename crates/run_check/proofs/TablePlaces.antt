-- The place of a table's name is one of the schema's.
use Rattle.std.proofs.Common.{◌≡◌, ◌<◌, ◌+◌, ℕ, [], ◌∷◌, Bool, true, false, length, slice_get, Option, Some, None, arith, refl}
use Rattle.std.specs.Prelude.{if◌then◌else◌, option_map}
use Rattle.std.specs.Str.{bytes_eq}
use Rattle.mdb_datum.specs.Bytes.{Bytes}
use Rattle.mdb_datum.proofs.ListPlaces.{there_within}
use Rattle.mdb_schema.specs.Schema.{DbSchema, table_place}

pub table_place-within : (name : Bytes) (ts : DbSchema) (place : ℕ) → table_place name ts ≡ Some place → place < length ts
table_place-within name [] place e = cc
table_place-within name (t ∷ ts) place e = of (bytes_eq t.name name) (table_place name ts) refl e (λ at found. table_place-within name ts at found)
  where
    of : (b : Bool) (o : Option ℕ) → table_place name ts ≡ o → (if b then Some 0 else option_map (λ n. n + 1) o) ≡ Some place → ((at : ℕ) → table_place name ts ≡ Some at → at < length ts) → place < length (t ∷ ts)
    of true o is g later = let first : 0 ≡ place = cc in omega (arith, first)
    of false None is g later = cc
    of false (Some at) is g later = let next : at + 1 ≡ place = cc in omega (arith, next, later at is)

pub never_away : {A : Type 0} (name : Bytes) (ts : DbSchema) (place : ℕ) → table_place name ts ≡ Some place → slice_get ts place ≡ None → A
never_away name ts place named none = let t = there_within ts place (table_place-within name ts place named) in let h = t.1 in cc
