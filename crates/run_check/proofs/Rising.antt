-- Lists in which each stands to the next one in a relation that goes through.
use Rattle.std.proofs.Common.{◌≡◌, ◌∙◌, ◌<◌, ◌≤◌, ◌++◌, ◌⊎◌, ℕ, zero, suc, true, false, ◌-◌, List, [], ◌∷◌, length, get_or, Option, Some, Contains, Decides, arith, refl, sym, ap, subst, inl, inr}
use Rattle.std.specs.Prelude.{nat_le, nat_lt, slice_get}
use Rattle.std.specs.List.Sorted.{IsPartitionedBy, IsPartitionPoint}
use Rattle.std.proofs.lemmas.Bool.{cases_lt, le-leb, leb-false, leb-true, lt-ltb, ltb-true}
use Rattle.std.proofs.lemmas.List.Elements.{Contains-get_or}
use Rattle.run_check.specs.inner.SlotView.{Rises}

module _ {A : Type 0} (R : A → A → Type 0) where
  pub rest_rises : (x : A) (xs : List A) → Rises R (x ∷ xs) → Rises R xs
  rest_rises x [] h = tt
  rest_rises x (y ∷ xs) h = h.1

  -- the first one stands so to each later one
  pub first_rises : ((x y z : A) → R x y → R y z → R x z) → (x : A) (xs : List A) → Rises R (x ∷ xs)
      → (k : ℕ) (d : A) → k < length xs → R x (get_or xs k d)
  first_rises through x [] h k d lt = absurd (omega arith)
  first_rises through x (y ∷ xs) h zero d lt = h.0
  first_rises through x (y ∷ xs) h (suc k) d lt =
      through x y (get_or xs k d) h.0 (first_rises through y xs h.1 k d (omega arith))

  -- and each to each later one
  pub rises_at : ((x y z : A) → R x y → R y z → R x z) → (xs : List A) → Rises R xs
      → (i j : ℕ) (d : A) → i < j → j < length xs → R (get_or xs i d) (get_or xs j d)
  rises_at through [] h i j d lt within = absurd (omega arith)
  rises_at through (x ∷ xs) h zero zero d lt within = absurd (omega arith)
  rises_at through (x ∷ xs) h zero (suc j) d lt within = first_rises through x xs h j d (omega arith)
  rises_at through (x ∷ xs) h (suc i) zero d lt within = absurd (omega arith)
  rises_at through (x ∷ xs) h (suc i) (suc j) d lt within =
      rises_at through xs (rest_rises x xs h) i j d (omega arith) (omega arith)

  -- one more at the end
  pub rises_push : (xs : List A) (y : A) → Rises R xs → ((x : A) → Contains xs x → R x y) → Rises R (xs ++ y ∷ [])
  rises_push [] y h below = tt
  rises_push (x ∷ []) y h below = (below x (0, omega arith, refl), tt)
  rises_push (x ∷ w ∷ xs) y h below =
      (h.0, rises_push (w ∷ xs) y h.1 (λ z c. below z (suc c.0, omega (arith, c.1), c.2)))

-- ---- numbers that rise, up to some

module _ {A : Type 0} (n : A → ℕ) where
  -- those up to a number end at a place
  abbrev pub EndsUpTo : ℕ → List A → ℕ → Type 0
  EndsUpTo m xs i = IsPartitionPoint (λ x. n x ≤ m) (λ x. m < n x) xs i

  found_between : (after last : ℕ) (xs : List A) (i j : ℕ) → i ≤ length xs → j ≤ length xs → EndsUpTo after xs i → EndsUpTo last xs j → i < j
      → (x : A) × Contains xs x × (after < n x) × (n x ≤ last)
  found_between after last [] i j within upto from to h = absurd (omega arith)
  found_between after last (w ∷ xs) i j within upto from to h =
      (get_or (w ∷ xs) i w, Contains-get_or (w ∷ xs) i w (omega arith), from.1 i w (omega arith) (omega arith), to.0 i w (omega arith) h)

  -- there is one behind a number, up to another
  pub between_decides : (after last : ℕ) (xs : List A) (i j : ℕ) → i ≤ length xs → j ≤ length xs → EndsUpTo after xs i → EndsUpTo last xs j
      → Decides (nat_lt i j) ((x : A) × Contains xs x × (after < n x) × (n x ≤ last))
  between_decides after last xs i j within upto from to = (λ lt. found_between after last xs i j within upto from to (ltb-true i j lt), back)
    where
      back : (x : A) × Contains xs x × (after < n x) × (n x ≤ last) → nat_lt i j ≡ true
      back (x, c, low, high) = lt-ltb i j (of (cases_lt c.0 i) (cases_lt c.0 j))
        where
          at : n (get_or xs c.0 x) ≡ n x
          at = ap n c.2

          of : (c.0 < i) ⊎ (i ≤ c.0) → (c.0 < j) ⊎ (j ≤ c.0) → i < j
          of (inl lt) u = absurd (omega (arith, at, low, from.0 c.0 x (omega arith) lt))
          of (inr ge) (inl lt) = omega arith
          of (inr ge) (inr past) = absurd (omega (arith, at, high, to.1 c.0 x past c.1))

-- of numbers themselves
pub numbers_parted : (m : ℕ) (xs : List ℕ) → Rises (λ (j k : ℕ). j < k) xs → IsPartitionedBy (λ x. nat_le x m) xs
numbers_parted m xs h i j d le within pass = of (cases_lt i j)
  where
    of : (i < j) ⊎ (j ≤ i) → nat_le (get_or xs i d) m ≡ true
    of (inl lt) = le-leb _ m (omega (arith, rises_at (λ (j k : ℕ). j < k) (λ x y z h k. omega arith) xs h i j d lt within, leb-true _ m pass))
    of (inr ge) = let same : j ≡ i = omega arith in ap (λ k. nat_le (get_or xs k d) m) (sym same) ∙ pass

pub ends_up_to : (m : ℕ) (xs ys : List ℕ) (i : ℕ) → xs ≡ ys
    → IsPartitionPoint (λ x. nat_le x m ≡ true) (λ x. nat_le x m ≡ false) xs i → EndsUpTo (λ (x : ℕ). x) m ys i
ends_up_to m xs ys i same h =
    let Ends : List ℕ → Type 0 = λ zs. EndsUpTo (λ (x : ℕ). x) m zs i in
    subst Ends same ((λ k d low high. leb-true _ m (h.0 k d low high)), (λ k d low high. leb-false _ m (h.1 k d low high)))

pub numbers_push : (n : ℕ) (xs : List ℕ) → Rises (λ (j k : ℕ). j < k) xs → ((j : ℕ) → Contains xs j → j ≤ n)
    → ((k d : ℕ) → suc k ≡ length xs → get_or xs k d ≡ n → ⊥) → Rises (λ (j k : ℕ). j < k) (xs ++ n ∷ [])
numbers_push n xs h below other = rises_push (λ (j k : ℕ). j < k) xs n h (λ j c. of j c (cases_lt (suc c.0) (length xs)))
  where
    of : (j : ℕ) (c : Contains xs j) → (suc c.0 < length xs) ⊎ (length xs ≤ suc c.0) → j < n
    of j c (inl lt) =
        let later = rises_at (λ (j k : ℕ). j < k) (λ x y z h k. omega arith) xs h c.0 (suc c.0) j (omega arith) lt in
        let most = below (get_or xs (suc c.0) j) (Contains-get_or xs (suc c.0) j lt) in
        omega (arith, c.2, later, most)
    of j c (inr ge) =
        let not = other c.0 j (omega (arith, c.1)) in
        let most = below j c in
        apart (get_or xs c.0 j) c.2 not most
      where
        apart : (m : ℕ) → m ≡ j → (m ≡ n → ⊥) → j ≤ n → j < n
        apart m is not le = omega (arith, is, not, le)

-- the last one is another number
pub last_differs : (n : ℕ) (xs : List ℕ) (o : Option ℕ) → o ≡ slice_get xs (length xs - 1) → (o ≡ Some n → ⊥)
    → (k d : ℕ) → suc k ≡ length xs → get_or xs k d ≡ n → ⊥
last_differs n xs o is other k d last at =
    let same : length xs - 1 ≡ k = omega (arith, last) in
    other (is ∙ ap (slice_get xs) same ∙ there xs k d (omega (arith, last)) ∙ ap Some at)
  where
    there : (xs : List ℕ) (k d : ℕ) → k < length xs → slice_get xs k ≡ Some (get_or xs k d)
    there [] k d lt = absurd (omega arith)
    there (x ∷ xs) zero d lt = refl
    there (x ∷ xs) (suc k) d lt = there xs k d (omega arith)
