-- Byte order of keys that begin alike, and `put` in lists of pairs that are joined.
use Rattle.std.proofs.Common.{◌≡◌, ◌<◌, ◌++◌, ◌∷◌, ◌∙◌, ℕ, List, [], refl, ap, Less, Equal, Greater}
use Rattle.std.specs.Ordering.{ordering_then}
use Rattle.std.proofs.lemmas.Cmp.{nat_cmp_total, tied_itself}
use Rattle.std.specs.FinMap.Entries as entries
use Rattle.mdb_datum.specs.Bytes.{byte_order}
use Rattle.mdb_datum.specs.Row.{Fields, Pair}
use Rattle.radix_node.specs.Pairs.{put}
use Rattle.mdb_datum.proofs.ByteOrder.{turned, byte_order_itself}
use Rattle.radix_node.proofs.ByteCompare.{less_from}

-- what both begin with does not count
pub same_start : (a x y : List ℕ) → byte_order (a ++ x) (a ++ y) ≡ byte_order x y
same_start [] x y = refl
same_start (b ∷ a) x y = ap (λ o. ordering_then o (byte_order (a ++ x) (a ++ y))) (tied_itself nat_cmp_total b) ∙ same_start a x y

-- a lower first byte decides
pub lower_byte : (a : List ℕ) (b c : ℕ) (x y : List ℕ) → b < c → byte_order (a ++ b ∷ x) (a ++ c ∷ y) ≡ Less
lower_byte a b c x y h = same_start a (b ∷ x) (c ∷ y) ∙ ap (λ o. ordering_then o (byte_order x y)) (less_from b c h)

pub higher_byte : (a : List ℕ) (b c : ℕ) (x y : List ℕ) → b < c → byte_order (a ++ c ∷ y) (a ++ b ∷ x) ≡ Greater
higher_byte a b c x y h = turned (a ++ b ∷ x) (a ++ c ∷ y) Less (lower_byte a b c x y h)

-- a key that goes on is higher
pub goes_on : (a : List ℕ) (c : ℕ) (y : List ℕ) → byte_order a (a ++ c ∷ y) ≡ Less
goes_on [] c y = refl
goes_on (b ∷ a) c y = ap (λ o. ordering_then o (byte_order a (a ++ c ∷ y))) (tied_itself nat_cmp_total b) ∙ goes_on a c y

pub goes_on_back : (a : List ℕ) (c : ℕ) (y : List ℕ) → byte_order (a ++ c ∷ y) a ≡ Greater
goes_on_back a c y = turned a (a ++ c ∷ y) Less (goes_on a c y)

-- P holds of each key
abbrev pub Each : (List ℕ → Type 0) → List Pair → Type 0
Each P [] = Unit {0}
Each P (p ∷ ps) = P p.0 × Each P ps

pub Each-append : (P : List ℕ → Type 0) (xs ys : List Pair) → Each P xs → Each P ys → Each P (xs ++ ys)
Each-append P [] ys f g = g
Each-append P (x ∷ xs) ys f g = (f.0, Each-append P xs ys f.1 g)

pub Each-weaken : (P Q : List ℕ → Type 0) (xs : List Pair) → ((k : List ℕ) → P k → Q k) → Each P xs → Each Q xs
Each-weaken P Q [] f h = tt
Each-weaken P Q (x ∷ xs) f h = (f x.0 h.0, Each-weaken P Q xs f h.1)

module _ (key : List ℕ) (row : Fields) where
  -- a key goes before higher ones
  pub put_before : (ps : List Pair) → Each (λ k. byte_order key k ≡ Less) ps → put key row ps ≡ (key, row) ∷ ps
  put_before [] h = refl
  put_before (p ∷ ps) h = ap (λ o. entries.by_order o ((key, row) ∷ p ∷ ps) ((p.0, row) ∷ ps) (p ∷ put key row ps)) h.0

  -- it stands or goes before higher ones that follow
  pub put_front : (xs ys : List Pair) → Each (λ k. byte_order key k ≡ Less) ys → put key row (xs ++ ys) ≡ put key row xs ++ ys
  put_front [] ys h = put_before ys h
  put_front (x ∷ xs) ys h =
      elim (byte_order key x.0) as (λ o. entries.by_order o ((key, row) ∷ x ∷ (xs ++ ys)) ((x.0, row) ∷ (xs ++ ys)) (x ∷ put key row (xs ++ ys)) ≡ entries.by_order o ((key, row) ∷ x ∷ xs) ((x.0, row) ∷ xs) (x ∷ put key row xs) ++ ys) [
        | Less ↦ refl
        | Equal ↦ refl
        | Greater ↦ ap (λ (zs : List Pair). x ∷ zs) (put_front xs ys h)
      ]

  -- lower ones before it stay
  pub put_back : (xs ys : List Pair) → Each (λ k. byte_order key k ≡ Greater) xs → put key row (xs ++ ys) ≡ xs ++ put key row ys
  put_back [] ys h = refl
  put_back (x ∷ xs) ys h =
      ap (λ o. entries.by_order o ((key, row) ∷ x ∷ (xs ++ ys)) ((x.0, row) ∷ (xs ++ ys)) (x ∷ put key row (xs ++ ys))) h.0
      ∙ ap (λ (zs : List Pair). x ∷ zs) (put_back xs ys h.1)

  -- it takes the place of itself
  pub put_here : (old : Fields) (ps : List Pair) → put key row ((key, old) ∷ ps) ≡ (key, row) ∷ ps
  put_here old ps = ap (λ o. entries.by_order o ((key, row) ∷ (key, old) ∷ ps) ((key, row) ∷ ps) ((key, old) ∷ put key row ps)) (byte_order_itself key)
