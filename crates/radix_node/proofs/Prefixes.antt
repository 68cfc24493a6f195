-- Which keys begin with a prefix.
use Rattle.std.proofs.Common.{◌≡◌, ◌≢◌, ◌&&◌, ◌++◌, ◌∷◌, ◌∙◌, ℕ, true, false, List, [], refl, sym, ap}
use Rattle.std.specs.Prelude.{nat_eq}
use Rattle.std.proofs.lemmas.Bool.{eqb-true, eq-eqb, false_from_ne_true}
use Rattle.std.proofs.lemmas.List.{append-nil}
use Rattle.mdb_datum.specs.Bytes.{is_prefix}
use Rattle.radix_node.proofs.KeysUnder.{Past}

-- what both begin with does not count
pub is_prefix_start : (a x y : List ℕ) → is_prefix (a ++ x) (a ++ y) ≡ is_prefix x y
is_prefix_start [] x y = refl
is_prefix_start (b ∷ a) x y = ap (λ t. t && is_prefix (a ++ x) (a ++ y)) (eq-eqb b b refl) ∙ is_prefix_start a x y

-- a key that goes on from the prefix
pub is_prefix_all : (path prefix y q : List ℕ) → prefix ≡ path → q ≡ path ++ y → is_prefix prefix q ≡ true
is_prefix_all path prefix y q e f = (λ i. is_prefix ((e ∙ sym (append-nil path)) i) (f i)) ∙ is_prefix_start path [] y

-- one that parts from it
pub is_prefix_other : (path prefix : List ℕ) (x : ℕ) (k : List ℕ) → prefix ≡ path ++ x ∷ k → (q : List ℕ) → Past (λ c. x ≢ c) path q → is_prefix prefix q ≡ false
is_prefix_other path prefix x k e q w = (λ i. is_prefix (e i) (w.3 i)) ∙ is_prefix_start path (x ∷ k) (w.0 ∷ w.1) ∙ ap (λ t. t && is_prefix k w.1) (false_from_ne_true (nat_eq x w.0) (λ t. w.2 (eqb-true x w.0 t)))

-- one that ends within it
pub is_prefix_short : (path prefix : List ℕ) (x : ℕ) (k : List ℕ) → prefix ≡ path ++ x ∷ k → (q : List ℕ) → q ≡ path → is_prefix prefix q ≡ false
is_prefix_short path prefix x k e q f = (λ i. is_prefix (e i) ((f ∙ sym (append-nil path)) i)) ∙ is_prefix_start path (x ∷ k) []
