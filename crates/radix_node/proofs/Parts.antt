-- What two byte strings have in common, and what is left of them.
use Rattle.std.proofs.Common.{◌≡◌, ◌≢◌, ◌++◌, ◌∷◌, ◌∙◌, ℕ, true, false, List, [], cond, refl, sym, ap}
use Rattle.std.specs.Prelude.{nat_eq}
use Rattle.std.proofs.lemmas.Bool.{eqb-true, eq-eqb, false≢true}
use Rattle.radix_node.specs.Nodes.{part}

-- not both begin with one byte
abbrev pub HeadsDiffer : List ℕ → List ℕ → Type 0
HeadsDiffer [] k = Unit {0}
HeadsDiffer (y ∷ p) [] = Unit {0}
HeadsDiffer (y ∷ p) (x ∷ k) = y ≢ x

-- the two byte strings in three parts
pub record IsParted (p k shared p_rest k_rest : List ℕ) : Type 0 where
  pub first : p ≡ shared ++ p_rest
  pub second : k ≡ shared ++ k_rest
  pub differ : HeadsDiffer p_rest k_rest

pub part_parts : (p k : List ℕ) → let s = part p k in IsParted p k s.0 s.1 s.2
part_parts [] k = record { first = refl; second = refl; differ = tt }
part_parts (a ∷ p) [] = record { first = refl; second = refl; differ = tt }
part_parts (a ∷ p) (b ∷ k) =
    let inner = part_parts p k in
    let r = part p k in
    elim (nat_eq a b) as (λ t. nat_eq a b ≡ t → let s : List ℕ × List ℕ × List ℕ = cond t (a ∷ r.0, r.1, r.2) ([], a ∷ p, b ∷ k) in IsParted (a ∷ p) (b ∷ k) s.0 s.1 s.2) [
      | true ↦ λ t. record {
        first = ap (λ (z : List ℕ). a ∷ z) inner.first;
        second = ap (λ (z : ℕ). z ∷ k) (sym (eqb-true a b t)) ∙ ap (λ (z : List ℕ). a ∷ z) inner.second;
        differ = inner.differ;
      }
      | false ↦ λ t. record { first = refl; second = refl; differ = λ e. false≢true (sym t ∙ eq-eqb a b e) }
    ] refl

-- where the first bytes are the same
pub part_first : (a : ℕ) (p k : List ℕ) → part (a ∷ p) (a ∷ k) ≡ (a ∷ (part p k).0, (part p k).1, (part p k).2)
part_first a p k = ap (λ t. cond t (a ∷ (part p k).0, (part p k).1, (part p k).2) ([], a ∷ p, a ∷ k)) (eq-eqb a a refl)
