-- The places of indexes in a table.
use Rattle.std.proofs.Common.{◌≡◌, ◌<◌, ◌∙◌, ◌+◌, ℕ, zero, suc, List, [], ◌∷◌, Bool, true, false, codes, length, slice_get, Option, Some, None, option_map, refl, ap, arith}
use Rattle.std.specs.Prelude.{if◌then◌else◌}
use Rattle.std.specs.List.{enumerate_from}
use Rattle.std.specs.Str.{bytes_eq}
use Rattle.mdb_encode.specs.Bytes.{Bytes}
use Rattle.mdb_schema.specs.LawfulSchema.{IsLawfulTable}
use Rattle.mdb_schema.specs.Schema.{IndexSchema, TableSchema, index_place}
use Rattle.mdb_schema.proofs.IdKeys.{id_index}

-- a lawful table has an index `id`
pub no_id_index : (t : TableSchema) → IsLawfulTable t → index_place (codes "id") t.indexes ≡ None → ⊥
no_id_index t table none = let at = id_index t table in let placed = at.placed in cc

pub place_within : (name : Bytes) (is : List IndexSchema) (place : ℕ) → index_place name is ≡ Some place → place < length is
place_within name [] place e = cc
place_within name (i ∷ is) place e = of (bytes_eq i.name name) (index_place name is) e (λ p h. place_within name is p h)
  where
    of : (b : Bool) (o : Option ℕ) → (if b then Some 0 else option_map (λ n. n + 1) o) ≡ Some place → ((p : ℕ) → o ≡ Some p → p < length is) → place < length (i ∷ is)
    of true o e later = let h : 0 ≡ place = cc in omega arith
    of false None e later = cc
    of false (Some p) e later = let h : p + 1 ≡ place = cc in omega (arith, later p refl)

-- there is an index at each place within
pub index_there : (is : List IndexSchema) (at : ℕ) → at < length is → slice_get is at ≡ None → ⊥
index_there [] at within e = omega (arith, within)
index_there (i ∷ is) zero within e = cc
index_there (i ∷ is) (suc at) within e = index_there is at (omega (arith, within)) e

-- ---- indexes with their places

placed_from : (n : ℕ) (is : List IndexSchema) (at : ℕ) (i : IndexSchema) → slice_get is at ≡ Some i → slice_get (enumerate_from n is) at ≡ Some (n + at, i)
placed_from n [] at i e = cc
placed_from n (j ∷ is) zero i e =
    let same : j ≡ i = cc in
    let place : n ≡ n + 0 = omega arith in
    λ k. Some (place k, same k)
placed_from n (j ∷ is) (suc at) i e =
    let place : n + 1 + at ≡ n + suc at = omega arith in
    placed_from (n + 1) is at i e ∙ ap (λ (p : ℕ). Some (p, i)) place

pub placed_at : (is : List IndexSchema) (at : ℕ) (i : IndexSchema) → slice_get is at ≡ Some i → slice_get (enumerate_from 0 is) at ≡ Some (at, i)
placed_at is at i e =
    let place : 0 + at ≡ at = omega arith in
    placed_from 0 is at i e ∙ ap (λ (p : ℕ). Some (p, i)) place

pub length_placed : (n : ℕ) (is : List IndexSchema) → length (enumerate_from n is) ≡ length is
length_placed n [] = refl
length_placed n (i ∷ is) = ap suc (length_placed (n + 1) is)
