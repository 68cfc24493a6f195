-- Where the entries of a list stand: the numbers, counted from 1, of those that pass a test, and of
-- those of each caller.
use Rattle.std.proofs.Common.{arith, ◌≡◌, refl, ap, sym, ◌∙◌, subst, ℕ, zero, suc, ◌+◌, ◌-◌, ◌<◌, ◌≤◌, List, ◌∷◌, [], ◌++◌, length, map, true, false, Bool, Option, Some, IsPermutation, slice_get}
use Rattle.std.specs.Prelude.{◌==◌, if◌then◌else◌, filter}
use Rattle.std.specs.List.{enumerate_from}
use Rattle.std.proofs.lemmas.Bool.Decides.{nat_tests}
use Rattle.std.proofs.lemmas.List.{length-map}
use Rattle.std.proofs.lemmas.List.Sorted.{IsPermutation-refl, IsPermutation-trans, IsPermutation-sym, IsPermutation-cons, IsPermutation-middle, IsPermutation-append_right}
use Rattle.client_session.specs.Answered.{AreRising}
use mathlib.Core.Logic.{dite}
use native.Mathlib.Decide.{dec_le}

-- ---- the entries that pass a test

nothing_past : (low high m : ℕ) (ms : List ℕ) → AreRising low (m ∷ ms) high → low < high
nothing_past low high m [] r = let a = r.0 in let b = r.1 in omega (arith, a, b)
nothing_past low high m (k ∷ ms) r = let a = r.0 in let b = nothing_past m high k ms r.1 in omega (arith, a, b)

-- the first number is that of the first entry, or past it
first_or_past : (low m : ℕ) → low < m → {P : Type 0} → (m ≡ low + 1 → P) → (low + 1 < m → P) → P
first_or_past low m less here past = dite (dec_le m (low + 1)) (λ le. here (omega (arith, less, le))) (λ more. past (omega (arith, more)))

module _ {X : Type 0} where
  -- the numbers of the entries that pass a test, where the first has the number n
  abbrev pub places : (X → Bool) → ℕ → List X → List ℕ
  places f n [] = []
  places f n (x ∷ xs) = if f x then n ∷ places f (n + 1) xs else places f (n + 1) xs

  -- the entry of a number, where those up to low stand before the list
  abbrev pub at : List X → ℕ → ℕ → Option X
  at xs low m = slice_get xs (m - (low + 1))

  -- so for each of some numbers
  abbrev pub AreAt : List X → ℕ → List ℕ → List X → Type 0
  AreAt xs low [] [] = Unit {0}
  AreAt xs low [] (c ∷ cs) = ⊥
  AreAt xs low (m ∷ ms) [] = ⊥
  AreAt xs low (m ∷ ms) (c ∷ cs) = (at xs low m ≡ Some c) × AreAt xs low ms cs

  abbrev pub AllPass : (X → Bool) → List X → Type 0
  AllPass f [] = Unit {0}
  AllPass f (c ∷ cs) = (f c ≡ true) × AllPass f cs

  some_same : (x y : X) → Some x ≡ Some y → x ≡ y
  some_same x y e = cc

  -- past the first entry
  past_at : (x : X) (xs : List X) (low m : ℕ) → low + 1 < m → at (x ∷ xs) low m ≡ at xs (low + 1) m
  past_at x xs low m past =
      let e : m - (low + 1) ≡ suc (m - (low + 1 + 1)) = omega (arith, past) in
      ap (slice_get (x ∷ xs)) e

  past_all : (x : X) (xs : List X) (low l high : ℕ) (ms : List ℕ) (cs : List X) → low + 1 ≤ l → AreRising l ms high → AreAt (x ∷ xs) low ms cs → AreAt xs (low + 1) ms cs
  past_all x xs low l high [] [] le r a = tt
  past_all x xs low l high [] (c ∷ cs) le r a = absurd a
  past_all x xs low l high (m ∷ ms) [] le r a = absurd a
  past_all x xs low l high (m ∷ ms) (c ∷ cs) le r a =
      let first = r.0 in
      (sym (past_at x xs low m (omega (arith, le, first))) ∙ a.0, past_all x xs low m high ms cs (omega (arith, le, first)) r.1 a.1)

  here_at : (x c : X) (xs : List X) (low m : ℕ) → m ≡ low + 1 → at (x ∷ xs) low m ≡ Some c → x ≡ c
  here_at x c xs low m is e =
      let z : m - (low + 1) ≡ 0 = omega (arith, is) in
      some_same x c (sym (ap (slice_get (x ∷ xs)) z) ∙ e)

  more_pass : (f : X → Bool) (x : X) (xs : List X) → length (filter f xs) ≤ length (filter f (x ∷ xs))
  more_pass f x xs = go (f x)
    where
      go : (b : Bool) → length (filter f xs) ≤ length (if b then x ∷ filter f xs else filter f xs)
      go true = omega arith
      go false = omega arith

  one_more : (f : X → Bool) (x : X) (xs : List X) → f x ≡ true → length (filter f (x ∷ xs)) ≡ suc (length (filter f xs))
  one_more f x xs is = ap (λ (b : Bool). length (if b then x ∷ filter f xs else filter f xs)) is

  -- rising numbers of entries that pass are no more than there are such entries
  pub few_pass : (f : X → Bool) (xs : List X) (low : ℕ) (ms : List ℕ) (cs : List X) → AreRising low ms (low + length xs) → AreAt xs low ms cs → AllPass f cs → length ms ≤ length (filter f xs)
  few_pass f xs low [] cs r a p = omega arith
  few_pass f [] low (m ∷ ms) cs r a p = absurd (let h = nothing_past low (low + 0) m ms r in omega (arith, h))
  few_pass f (x ∷ xs) low (m ∷ ms) [] r a p = absurd a
  few_pass f (x ∷ xs) low (m ∷ ms) (c ∷ cs) r a p = first_or_past low m r.0 (here (few_pass f xs (low + 1) ms cs)) (past (few_pass f xs (low + 1) (m ∷ ms) (c ∷ cs)))
    where
      here : (AreRising (low + 1) ms (low + 1 + length xs) → AreAt xs (low + 1) ms cs → AllPass f cs → length ms ≤ length (filter f xs)) → m ≡ low + 1 → length (m ∷ ms) ≤ length (filter f (x ∷ xs))
      here others is =
          let same = here_at x c xs low m is a.0 in
          let up : AreRising (low + 1) ms (low + 1 + length xs) = subst (λ (n : ℕ). AreRising n ms (low + 1 + length xs)) is (subst (AreRising m ms) (omega arith) r.1) in
          let rest = others up (past_all x xs low (low + 1) (low + 1 + length xs) ms cs (omega arith) up a.1) p.1 in
          let one = one_more f x xs (ap f same ∙ p.0) in
          omega (arith, rest, one)

      past : (AreRising (low + 1) (m ∷ ms) (low + 1 + length xs) → AreAt xs (low + 1) (m ∷ ms) (c ∷ cs) → AllPass f (c ∷ cs) → length (m ∷ ms) ≤ length (filter f xs)) → low + 1 < m → length (m ∷ ms) ≤ length (filter f (x ∷ xs))
      past others more =
          let up : AreRising (low + 1) (m ∷ ms) (low + 1 + length xs) = (more, subst (AreRising m ms) (omega arith) r.1) in
          let rest = others up (past_all x xs low (low + 1) (low + 1 + length xs) (m ∷ ms) (c ∷ cs) (omega arith) up a) p in
          let more = more_pass f x xs in
          omega (arith, rest, more)

  -- as many of them as there are such entries are the numbers of them all
  pub all_places : (f : X → Bool) (xs : List X) (low : ℕ) (ms : List ℕ) (cs : List X) → AreRising low ms (low + length xs) → AreAt xs low ms cs → AllPass f cs → length ms ≡ length (filter f xs) → ms ≡ places f (low + 1) xs
  all_places f [] low [] cs r a p long = refl
  all_places f [] low (m ∷ ms) cs r a p long = cc
  all_places f (x ∷ xs) low [] (c ∷ cs) r a p long = absurd a
  all_places f (x ∷ xs) low (m ∷ ms) [] r a p long = absurd a
  all_places f (x ∷ xs) low [] [] r a p long = go (all_places f xs (low + 1) [] [] (omega arith) tt tt) (f x) refl
    where
      go : (0 ≡ length (filter f xs) → [] ≡ places f (low + 1 + 1) xs) → (b : Bool) → f x ≡ b → [] ≡ (if b then (low + 1) ∷ places f (low + 1 + 1) xs else places f (low + 1 + 1) xs)
      go others true is = let one = one_more f x xs is in absurd (omega (arith, one, long))
      go others false is =
          let none : 0 ≡ length (filter f xs) = long ∙ ap (λ (b : Bool). length (if b then x ∷ filter f xs else filter f xs)) is in
          others none
  all_places f (x ∷ xs) low (m ∷ ms) (c ∷ cs) r a p long = first_or_past low m r.0 (here (all_places f xs (low + 1) ms cs)) (past (all_places f xs (low + 1) (m ∷ ms) (c ∷ cs)))
    where
      here : (AreRising (low + 1) ms (low + 1 + length xs) → AreAt xs (low + 1) ms cs → AllPass f cs → length ms ≡ length (filter f xs) → ms ≡ places f (low + 1 + 1) xs) → m ≡ low + 1 → m ∷ ms ≡ places f (low + 1) (x ∷ xs)
      here others is =
          let same = here_at x c xs low m is a.0 in
          let passes : f x ≡ true = ap f same ∙ p.0 in
          let up : AreRising (low + 1) ms (low + 1 + length xs) = subst (λ (n : ℕ). AreRising n ms (low + 1 + length xs)) is (subst (AreRising m ms) (omega arith) r.1) in
          let one = one_more f x xs passes in
          let rest = others up (past_all x xs low (low + 1) (low + 1 + length xs) ms cs (omega arith) up a.1) p.1 (omega (arith, one, long)) in
          let whole : m ∷ ms ≡ (low + 1) ∷ places f (low + 1 + 1) xs = λ i. let r : List ℕ = is i ∷ rest i in r in
          whole ∙ sym (ap (λ (b : Bool). if b then (low + 1) ∷ places f (low + 1 + 1) xs else places f (low + 1 + 1) xs) passes)

      past : (AreRising (low + 1) (m ∷ ms) (low + 1 + length xs) → AreAt xs (low + 1) (m ∷ ms) (c ∷ cs) → AllPass f (c ∷ cs) → length (m ∷ ms) ≡ length (filter f xs) → m ∷ ms ≡ places f (low + 1 + 1) xs) → low + 1 < m → m ∷ ms ≡ places f (low + 1) (x ∷ xs)
      past others more =
          let up : AreRising (low + 1) (m ∷ ms) (low + 1 + length xs) = (more, subst (AreRising m ms) (omega arith) r.1) in
          let there = past_all x xs low (low + 1) (low + 1 + length xs) (m ∷ ms) (c ∷ cs) (omega arith) up a in
          let few = few_pass f xs (low + 1) (m ∷ ms) (c ∷ cs) up there p in
          go (λ same. others up there p same) few (f x) refl
        where
          go : (length (m ∷ ms) ≡ length (filter f xs) → m ∷ ms ≡ places f (low + 1 + 1) xs) → length (m ∷ ms) ≤ length (filter f xs) → (b : Bool) → f x ≡ b → m ∷ ms ≡ (if b then (low + 1) ∷ places f (low + 1 + 1) xs else places f (low + 1 + 1) xs)
          go same_of few true is = let one = one_more f x xs is in absurd (omega (arith, one, long, few))
          go same_of few false is =
              let same : suc (length ms) ≡ length (filter f xs) = long ∙ ap (λ (b : Bool). length (if b then x ∷ filter f xs else filter f xs)) is in
              same_of same

  -- the entries that pass a test pass it
  all_pass : (f : X → Bool) (xs : List X) → AllPass f (filter f xs)
  all_pass f [] = tt
  all_pass f (x ∷ xs) = go (f x) refl (all_pass f xs)
    where
      go : (b : Bool) → f x ≡ b → AllPass f (filter f xs) → AllPass f (if b then x ∷ filter f xs else filter f xs)
      go true is rest = (is, rest)
      go false is rest = rest

  are_at : (xs : List X) (ms : List ℕ) (cs : List X) → map (λ m. slice_get xs (m - 1)) ms ≡ map Some cs → AreAt xs 0 ms cs
  are_at xs [] [] e = tt
  are_at xs [] (c ∷ cs) e = cc
  are_at xs (m ∷ ms) [] e = cc
  are_at xs (m ∷ ms) (c ∷ cs) e =
      let first : slice_get xs (m - 1) ≡ Some c = cc in
      let rest : map (λ m. slice_get xs (m - 1)) ms ≡ map Some cs = cc in
      (first, are_at xs ms cs rest)

  -- A rising list of numbers, at which just the entries that pass a test stand, one after the
  -- other, is the list of the numbers of those entries.
  pub places_are : (f : X → Bool) (xs : List X) (ms : List ℕ) → AreRising 0 ms (length xs) → map (λ m. slice_get xs (m - 1)) ms ≡ map Some (filter f xs) → ms ≡ places f 1 xs
  places_are f xs ms r e =
      let long : length ms ≡ length (filter f xs) = sym (length-map ms (λ m. slice_get xs (m - 1))) ∙ ap length e ∙ length-map (filter f xs) Some in
      all_places f xs 0 ms (filter f xs) (subst (AreRising 0 ms) (omega arith) r) (are_at xs ms (filter f xs) e) (all_pass f xs) long

-- ---- the entries of each caller

module _ {X : Type 0} (caller : X → ℕ) where
  -- the numbers of the entries of caller k, each with k
  abbrev pub places_of : ℕ → ℕ → List X → List (ℕ × ℕ)
  places_of k n xs = map (λ m. (m, k)) (places (λ (x : X). caller x == k) n xs)

  -- so for so many callers, from k on
  abbrev pub by_callers : ℕ → ℕ → ℕ → List X → List (ℕ × ℕ)
  by_callers k zero n xs = []
  by_callers k (suc count) n xs = places_of k n xs ++ by_callers (k + 1) count n xs

  -- each entry has a caller from k on, of so many
  abbrev pub AreAmong : ℕ → ℕ → List X → Type 0
  AreAmong k count [] = Unit {0}
  AreAmong k count (x ∷ xs) = (k ≤ caller x) × (caller x < k + count) × AreAmong k count xs

  none_of : (k n : ℕ) (x : X) (xs : List X) → (caller x == k) ≡ false → places_of k n (x ∷ xs) ≡ places_of k (n + 1) xs
  none_of k n x xs other = ap (λ (b : Bool). map (λ m. (m, k)) (if b then n ∷ places (λ (y : X). caller y == k) (n + 1) xs else places (λ (y : X). caller y == k) (n + 1) xs)) other

  one_of : (k n : ℕ) (x : X) (xs : List X) → (caller x == k) ≡ true → places_of k n (x ∷ xs) ≡ (n, k) ∷ places_of k (n + 1) xs
  one_of k n x xs own = ap (λ (b : Bool). map (λ m. (m, k)) (if b then n ∷ places (λ (y : X). caller y == k) (n + 1) xs else places (λ (y : X). caller y == k) (n + 1) xs)) own

  -- an entry of a caller before k
  none_before : (k count n : ℕ) (x : X) (xs : List X) → caller x < k → by_callers k count n (x ∷ xs) ≡ by_callers k count (n + 1) xs
  none_before k zero n x xs before = refl
  none_before k (suc count) n x xs before =
      let other : (caller x == k) ≡ false = grind (arith, nat_tests) in
      let first = none_of k n x xs other in
      let rest = none_before (k + 1) count n x xs (omega (arith, before)) in
      λ i. let r : List (ℕ × ℕ) = first i ++ rest i in r

  -- an entry of one of the callers is counted once more
  one_counted : (k count n : ℕ) (x : X) (xs : List X) → k ≤ caller x → caller x < k + count → IsPermutation ((n, caller x) ∷ by_callers k count (n + 1) xs) (by_callers k count n (x ∷ xs))
  one_counted k zero n x xs low high = absurd (omega (arith, low, high))
  one_counted k (suc count) n x xs low high = dite (dec_le (caller x) k) here (after (one_counted (k + 1) count n x xs))
    where
      here : caller x ≤ k → IsPermutation ((n, caller x) ∷ by_callers k (suc count) (n + 1) xs) (by_callers k (suc count) n (x ∷ xs))
      here le =
          let is : caller x ≡ k = omega (arith, le, low) in
          let own : (caller x == k) ≡ true = grind (arith, nat_tests) in
          let first = one_of k n x xs own in
          let rest = none_before (k + 1) count n x xs (omega (arith, is)) in
          let same : (n, caller x) ∷ by_callers k (suc count) (n + 1) xs ≡ by_callers k (suc count) n (x ∷ xs) =
          ap (λ (c : ℕ). (n, c) ∷ by_callers k (suc count) (n + 1) xs) is ∙ (λ i. let r : List (ℕ × ℕ) = sym first i ++ sym rest i in r) in
          subst (IsPermutation ((n, caller x) ∷ by_callers k (suc count) (n + 1) xs)) same (IsPermutation-refl _)

      after : (k + 1 ≤ caller x → caller x < k + 1 + count → IsPermutation ((n, caller x) ∷ by_callers (k + 1) count (n + 1) xs) (by_callers (k + 1) count n (x ∷ xs))) → (caller x ≤ k → ⊥) → IsPermutation ((n, caller x) ∷ by_callers k (suc count) (n + 1) xs) (by_callers k (suc count) n (x ∷ xs))
      after others more =
          let other : (caller x == k) ≡ false = grind (arith, nat_tests) in
          let first = none_of k n x xs other in
          let rest = others (omega (arith, more)) (omega (arith, high)) in
          let moved = IsPermutation-sym _ _ (IsPermutation-middle (places_of k (n + 1) xs) (n, caller x) (by_callers (k + 1) count (n + 1) xs)) in
          let both = IsPermutation-append_right (places_of k (n + 1) xs) _ _ rest in
          subst (λ (ps : List (ℕ × ℕ)). IsPermutation ((n, caller x) ∷ by_callers k (suc count) (n + 1) xs) (ps ++ by_callers (k + 1) count n (x ∷ xs))) (sym first) (IsPermutation-trans _ _ _ moved both)

  none_at_all : (k count n : ℕ) → by_callers k count n [] ≡ []
  none_at_all k zero n = refl
  none_at_all k (suc count) n = none_at_all (k + 1) count n

  -- The numbers of the entries of each caller, one caller after the other, are all numbers with
  -- their callers.
  pub all_counted : (k count n : ℕ) (xs : List X) → AreAmong k count xs → IsPermutation (enumerate_from n (map caller xs)) (by_callers k count n xs)
  all_counted k count n [] among = subst (IsPermutation []) (sym (none_at_all k count n)) (IsPermutation-refl [])
  all_counted k count n (x ∷ xs) among =
      IsPermutation-trans _ _ _ (IsPermutation-cons (n, caller x) _ _ (all_counted k count (n + 1) xs among.2)) (one_counted k count n x xs among.0 among.1)
