-- `Contains` by the first element and the rest, through a map, a filter and a test.
use Rattle.std.proofs.Common.{◌≡◌, ◌⊎◌, ◌<◌, ◌∙◌, ℕ, zero, suc, List, [], ◌∷◌, length, map, get_or, slice_get, filter, Bool, true, false, cond, Some, Contains, All, refl, sym, ap, subst, inl, inr, arith}
use Rattle.std.specs.List.{list_any}
use Rattle.std.specs.Str.{bytes_eq}
use Rattle.std.proofs.lemmas.Bool.{cond-true, or_left, or_right, or_cases, both_ways, false_from_ne_true}
use Rattle.std.proofs.lemmas.List.Elements.{Contains-get_or}
use Rattle.std.proofs.lemmas.Option.{slice_get_within, get_or_from_slice_get}
use Rattle.std.proofs.lemmas.Slice.Eq.{bytes_eq-Decides}
use Rattle.mdb_encode.specs.Bytes.{Bytes}
use Rattle.mdb_schema.specs.Write.{is_among}

-- ---- the first and the rest

pub Contains-nil : {X : Type 0} (x : X) → Contains [] x → ⊥
Contains-nil x h = let lt = h.1 in omega arith

pub Contains-first : {X : Type 0} (x : X) (xs : List X) → Contains (x ∷ xs) x
Contains-first x xs = (0, omega arith, refl)

pub Contains-later : {X : Type 0} (y : X) (xs : List X) (x : X) → Contains xs x → Contains (y ∷ xs) x
Contains-later y xs x h = let lt = h.1 in (suc h.0, omega arith, h.2)

pub Contains-cons_cases : {X : Type 0} (y : X) (xs : List X) (x : X) → Contains (y ∷ xs) x → (y ≡ x) ⊎ Contains xs x
Contains-cons_cases {X} y xs x h = of h.0 h.1 h.2
  where
    of : (k : ℕ) → k < length (y ∷ xs) → get_or (y ∷ xs) k x ≡ x → (y ≡ x) ⊎ Contains xs x
    of zero lt e = inl e
    of (suc k) lt e = inr (k, omega arith, e)

-- what holds of the first and of the rest holds of each
pub each_of_cons : {X : Type 0} (P : X → Type 0) (y : X) (xs : List X) → P y → ((x : X) → Contains xs x → P x) → (x : X) → Contains (y ∷ xs) x → P x
each_of_cons P y xs first later x h = elim (Contains-cons_cases y xs x h) [ inl e ↦ subst P e first | inr within ↦ later x within ]

pub Contains-slice_get : {X : Type 0} (xs : List X) (at : ℕ) (x : X) → slice_get xs at ≡ Some x → Contains xs x
Contains-slice_get xs at x there = (at, slice_get_within xs at x there, get_or_from_slice_get xs at x x there)

pub All-from_contains : {X : Type 0} (P : X → Type 0) (xs : List X) → ((x : X) → Contains xs x → P x) → All P xs
All-from_contains P xs h k d lt = h (get_or xs k d) (Contains-get_or xs k d lt)

-- ---- a map

module _ {X Y : Type 0} (f : X → Y) where
  pub Contains-map : (xs : List X) (x : X) → Contains xs x → Contains (map f xs) (f x)
  Contains-map [] x h = absurd (Contains-nil x h)
  Contains-map (z ∷ xs) x h = elim (Contains-cons_cases z xs x h) [
    | inl e ↦ subst (λ (y : Y). Contains (f z ∷ map f xs) y) (ap f e) (Contains-first (f z) (map f xs))
    | inr within ↦ Contains-later (f z) (map f xs) (f x) (Contains-map xs x within)
  ]

  pub Contains-from_map : (xs : List X) (y : Y) → Contains (map f xs) y → (x : X) × Contains xs x × (f x ≡ y)
  Contains-from_map [] y h = absurd (Contains-nil y h)
  Contains-from_map (z ∷ xs) y h = elim (Contains-cons_cases (f z) (map f xs) y h) [
    | inl e ↦ (z, Contains-first z xs, e)
    | inr within ↦ let w = Contains-from_map xs y within in (w.0, Contains-later z xs w.0 w.1, w.2)
  ]

-- ---- a test

module _ {X : Type 0} (p : X → Bool) where
  pub list_any-true : (xs : List X) → list_any p xs ≡ true → (x : X) × Contains xs x × (p x ≡ true)
  list_any-true [] e = cc
  list_any-true (z ∷ xs) e = elim (or_cases (p z) (list_any p xs) e) [
    | inl here ↦ (z, Contains-first z xs, here)
    | inr later ↦ let w = list_any-true xs later in (w.0, Contains-later z xs w.0 w.1, w.2)
  ]

  pub list_any-from : (xs : List X) (x : X) → Contains xs x → p x ≡ true → list_any p xs ≡ true
  list_any-from [] x h e = absurd (Contains-nil x h)
  list_any-from (z ∷ xs) x h e = elim (Contains-cons_cases z xs x h) [
    | inl same ↦ or_left (p z) (list_any p xs) (ap p same ∙ e)
    | inr within ↦ or_right (p z) (list_any p xs) (list_any-from xs x within e)
  ]

  pub list_any-false : (xs : List X) (x : X) → list_any p xs ≡ false → Contains xs x → p x ≡ false
  list_any-false xs x e h = false_from_ne_true (p x) (λ t. both_ways (list_any p xs) e (list_any-from xs x h t))

  pub list_any-none : (xs : List X) → ((x : X) → Contains xs x → p x ≡ false) → list_any p xs ≡ false
  list_any-none xs none = false_from_ne_true (list_any p xs) (λ t. let w = list_any-true xs t in both_ways (p w.0) (none w.0 w.1) w.2)

  -- ---- a filter

  pub Contains-filter : (xs : List X) (x : X) → Contains xs x → p x ≡ true → Contains (filter p xs) x
  Contains-filter [] x h e = absurd (Contains-nil x h)
  Contains-filter (z ∷ xs) x h e = elim (Contains-cons_cases z xs x h) [
    | inl same ↦ subst (λ (l : List X). Contains l x) (sym (cond-true (p z) (z ∷ filter p xs) (filter p xs) (ap p same ∙ e)))
        (subst (λ (y : X). Contains (z ∷ filter p xs) y) same (Contains-first z (filter p xs)))
    | inr within ↦ on_rest (p z) z (filter p xs) x (Contains-filter xs x within e)
  ]
    where
      on_rest : (b : Bool) (z : X) (ys : List X) (x : X) → Contains ys x → Contains (cond b (z ∷ ys) ys) x
      on_rest true z ys x h = Contains-later z ys x h
      on_rest false z ys x h = h

  pub Contains-from_filter : (xs : List X) (x : X) → Contains (filter p xs) x → Contains xs x × (p x ≡ true)
  Contains-from_filter [] x h = absurd (Contains-nil x h)
  Contains-from_filter (z ∷ xs) x h = of (p z) refl h (λ within. Contains-from_filter xs x within)
    where
      of : (b : Bool) → p z ≡ b → Contains (cond b (z ∷ filter p xs) (filter p xs)) x → (Contains (filter p xs) x → Contains xs x × (p x ≡ true)) → Contains (z ∷ xs) x × (p x ≡ true)
      of true e h later = elim (Contains-cons_cases z (filter p xs) x h) [
        | inl same ↦ (subst (λ (y : X). Contains (z ∷ xs) y) same (Contains-first z xs), ap p (sym same) ∙ e)
        | inr within ↦ let w = later within in (Contains-later z xs x w.0, w.1)
      ]
      of false e h later = let w = later h in (Contains-later z xs x w.0, w.1)

  -- a test that each passes keeps them all
  pub filter-all : (xs : List X) → ((x : X) → Contains xs x → p x ≡ true) → filter p xs ≡ xs
  filter-all [] pass = refl
  filter-all (z ∷ xs) pass =
      cond-true (p z) (z ∷ filter p xs) (filter p xs) (pass z (Contains-first z xs))
      ∙ ap (λ (l : List X). z ∷ l) (filter-all xs (λ x h. pass x (Contains-later z xs x h)))

-- ---- keys

pub same_key : (a b : Bytes) → bytes_eq a b ≡ true → a ≡ b
same_key a b e = (bytes_eq-Decides a b).0 e

pub bytes_eq-itself : (a : Bytes) → bytes_eq a a ≡ true
bytes_eq-itself a = (bytes_eq-Decides a a).1 refl

pub bytes_eq-comm : (a b : Bytes) (r : Bool) → bytes_eq a b ≡ r → bytes_eq b a ≡ r
bytes_eq-comm a b true e = (bytes_eq-Decides b a).1 (sym (same_key a b e))
bytes_eq-comm a b false e = false_from_ne_true (bytes_eq b a) (λ t. both_ways (bytes_eq a b) e ((bytes_eq-Decides a b).1 (sym (same_key b a t))))

-- a key is not two
pub no_tie : (a b : Bytes) → bytes_eq a b ≡ false → a ≡ b → ⊥
no_tie a b e same = both_ways (bytes_eq a b) e ((bytes_eq-Decides a b).1 same)

pub is_among-from : (ks : List Bytes) (k : Bytes) → Contains ks k → is_among ks k ≡ true
is_among-from ks k h = list_any-from (bytes_eq k) ks k h (bytes_eq-itself k)

pub is_among-true : (ks : List Bytes) (k : Bytes) → is_among ks k ≡ true → Contains ks k
is_among-true ks k e = let w = list_any-true (bytes_eq k) ks e in subst (λ (x : Bytes). Contains ks x) (sym (same_key k w.0 w.2)) w.1
