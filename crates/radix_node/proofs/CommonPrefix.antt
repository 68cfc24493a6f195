-- The longest common prefix of two byte strings.
use Rattle.std.proofs.Common.{◌==◌, suc, true, false, length, ◌≡◌, ◌≢◌, ◌++◌, ◌∷◌, ◌∙◌, ℕ, List, [], cond, refl, sym, ap}
use Rattle.std.specs.Prelude.{nat_eq}
use Rattle.std.specs.List.{take_while, zip}
use Rattle.std.proofs.lemmas.List.Sums.{take_while-cons}
use Rattle.std.proofs.lemmas.Bool.{eqb-true, false_from_ne_true}
use Rattle.std.proofs.lemmas.List.{append-nil}
use Rattle.radix_node.specs.Nodes.{part, common}
use Rattle.radix_node.proofs.Parts.{part_first}

-- what both begin with is part of it
pub common_start : (a x y : List ℕ) → common (a ++ x) (a ++ y) ≡ a ++ common x y
common_start [] x y = refl
common_start (b ∷ a) x y = ap (λ (s : List ℕ × List ℕ × List ℕ). s.0) (part_first b (a ++ x) (a ++ y)) ∙ ap (λ (z : List ℕ). b ∷ z) (common_start a x y)

common_end : (y : List ℕ) → common y [] ≡ []
common_end [] = refl
common_end (c ∷ y) = refl

-- bytes that differ end it
common_parted : (b c : ℕ) (x y : List ℕ) → b ≢ c → common (b ∷ x) (c ∷ y) ≡ []
common_parted b c x y other =
    ap (λ (s : List ℕ × List ℕ × List ℕ). s.0) (ap (λ t. let s : List ℕ × List ℕ × List ℕ = cond t (b ∷ (part x y).0, (part x y).1, (part x y).2) ([], b ∷ x, c ∷ y) in s) (false_from_ne_true (nat_eq b c) (λ e. other (eqb-true b c e))))

pub common_two : (path k m : List ℕ) (b c : ℕ) (x y : List ℕ) → k ≡ path ++ b ∷ x → m ≡ path ++ c ∷ y → b ≢ c → common k m ≡ path
common_two path k m b c x y e f other = (λ i. common (e i) (f i)) ∙ common_start path (b ∷ x) (c ∷ y) ∙ ap (λ (z : List ℕ). path ++ z) (common_parted b c x y other) ∙ append-nil path

pub common_first : (path k m y : List ℕ) → k ≡ path → m ≡ path ++ y → common k m ≡ path
common_first path k m y e f = (λ i. common ((e ∙ sym (append-nil path)) i) (f i)) ∙ common_start path [] y ∙ append-nil path

pub common_second : (path k m x : List ℕ) → k ≡ path ++ x → m ≡ path → common k m ≡ path
common_second path k m x e f = (λ i. common (e i) ((f ∙ sym (append-nil path)) i)) ∙ common_start path x [] ∙ ap (λ (z : List ℕ). path ++ z) (common_end x) ∙ append-nil path

-- its length, counted pair by pair
pub length-common : (p k : List ℕ) → length (take_while (λ (q : ℕ × ℕ). q.0 == q.1) (zip p k)) ≡ length (common p k)
length-common [] k = refl
length-common (a ∷ p) [] = refl
length-common (a ∷ p) (b ∷ k) =
    let same : List (ℕ × ℕ) → List (ℕ × ℕ) = take_while (λ (q : ℕ × ℕ). q.0 == q.1) in
    let head : ℕ × ℕ = (a, b) in
    ap length (take_while-cons (λ (q : ℕ × ℕ). q.0 == q.1) head (zip p k))
    ∙ elim (nat_eq a b) as (λ t. length (cond t (head ∷ same (zip p k)) []) ≡ length (let s : List ℕ × List ℕ × List ℕ = cond t (a ∷ (part p k).0, (part p k).1, (part p k).2) ([], a ∷ p, b ∷ k) in s.0)) [
      | true ↦ ap suc (length-common p k)
      | false ↦ refl
    ]
