-- What `<` of byte strings tells.
use Rattle.std.proofs.Common.{◌≡◌, ◌∷◌, ◌∙◌, ℕ, Bool, List, [], Some, refl, sym, ap, is_lt, is_gt, Ordering, Less, Equal, Greater}
use Rattle.std.specs.Cmp.Lexicographic.{slice_partial_cmp}
use Rattle.std.specs.Ordering.{nat_cmp, ordering_then, ordering_reverse, partial_ordering_then, partial_lt, is_some_and}
use Rattle.mdb_datum.specs.Bytes.{byte_order}
use Rattle.mdb_datum.proofs.ByteOrder.{turned}

partial_order : (xs ys : List ℕ) → slice_partial_cmp (λ x y. Some (nat_cmp x y)) xs ys ≡ Some (byte_order xs ys)
partial_order [] [] = refl
partial_order [] (y ∷ ys) = refl
partial_order (x ∷ xs) [] = refl
partial_order (x ∷ xs) (y ∷ ys) =
    ap (partial_ordering_then (Some (nat_cmp x y))) (partial_order xs ys)
    ∙ elim (nat_cmp x y) as (λ o. partial_ordering_then (Some o) (Some (byte_order xs ys)) ≡ Some (ordering_then o (byte_order xs ys))) [
      | Less ↦ refl
      | Equal ↦ refl
      | Greater ↦ refl
    ]

reversed : (o : Ordering) → is_gt (ordering_reverse o) ≡ is_lt o
reversed Less = refl
reversed Equal = refl
reversed Greater = refl

module _ (xs ys p : List ℕ) (b c : Bool) where
  -- the first is lower
  pub is_lower : p ≡ ys → b ≡ partial_lt (slice_partial_cmp (λ x y. Some (nat_cmp x y))) xs p → b ≡ c → is_lt (byte_order xs ys) ≡ c
  is_lower is told e = ap (λ (z : List ℕ). is_lt (byte_order xs z)) (sym is) ∙ sym (told ∙ ap (is_some_and is_lt) (partial_order xs p)) ∙ e

  -- the second is lower
  pub is_higher : p ≡ ys → b ≡ partial_lt (slice_partial_cmp (λ x y. Some (nat_cmp x y))) p xs → b ≡ c → is_gt (byte_order xs ys) ≡ c
  is_higher is told e =
      ap is_gt (turned ys xs (byte_order ys xs) refl) ∙ reversed (byte_order ys xs)
      ∙ ap (λ (z : List ℕ). is_lt (byte_order z xs)) (sym is) ∙ sym (told ∙ ap (is_some_and is_lt) (partial_order p xs)) ∙ e
