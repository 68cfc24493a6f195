-- How often a number comes in a list, and lists of pairs of numbers.
use Rattle.std.proofs.Common.{arith, ◌≡◌, refl, ap, ap₂, subst, sym, ◌∙◌, ℕ, ◌+◌, ◌<◌, ◌≤◌, inl, inr, List, [], ◌∷◌, ◌++◌, map, Bool, true, false, ◌||◌, sum_by}
use Rattle.std.specs.List.{enumerate_from, list_any}
use Rattle.std.specs.Prelude.{if◌then◌else◌, nat_eq}
use Rattle.std.proofs.lemmas.Bool.{cases_eq}
use Rattle.std.proofs.lemmas.Bool.Decides.{nat_tests}
use Rattle.std.proofs.lemmas.List.{map-append}
use Rattle.std.proofs.lemmas.List.Sums.{sum_by-cons}
use Rattle.client_script.specs.Legal.{all_printed, printed}
use Rattle.client_script.specs.Reply.{Reply}
use Rattle.run_check.proofs.CommitsRead.{all_numbers}

-- ---- no number comes twice

-- how often a number comes
abbrev pub count : ℕ → List ℕ → ℕ
count m [] = 0
count m (x ∷ xs) = (if nat_eq m x then 1 else 0) + count m xs

abbrev pub one_if : ℕ → ℕ → ℕ
one_if m x = if nat_eq m x then 1 else 0

pub count_sum : (m : ℕ) (xs : List ℕ) → sum_by (one_if m) xs ≡ count m xs
count_sum m [] = refl
count_sum m (x ∷ xs) = sum_by-cons (one_if m) x xs ∙ ap (λ (n : ℕ). one_if m x + n) (count_sum m xs)

-- where it comes nowhere, no test finds it
pub none_found : (m : ℕ) (xs : List ℕ) → count m xs ≡ 0 → list_any (nat_eq m) xs ≡ false
none_found m [] none = refl
none_found m (x ∷ xs) none = by (nat_eq m x) none (none_found m xs)
  where
    by : (t : Bool) → (if t then 1 else 0) + count m xs ≡ 0 → (count m xs ≡ 0 → list_any (nat_eq m) xs ≡ false) → (t || list_any (nat_eq m) xs) ≡ false
    by true e rest = absurd (omega (arith, e))
    by false e rest = rest (omega (arith, e))

-- numbers one after the other
abbrev pub firsts : {A : Type 0} → List (ℕ × A) → List ℕ
firsts ps = map (λ p. p.0) ps

low_none : {A : Type 0} (m i : ℕ) (xs : List A) → m < i → count m (firsts (enumerate_from i xs)) ≡ 0
low_none m i [] lt = refl
low_none m i (x ∷ xs) lt =
    let apart : nat_eq m i ≡ false = grind (arith, nat_tests, lt) in
    let rest = low_none m (i + 1) xs (omega (arith, lt)) in
    subst (λ (t : Bool). (if t then 1 else 0) + count m (firsts (enumerate_from (i + 1) xs)) ≡ 0) (sym apart) (omega (arith, rest))

pub each_once : {A : Type 0} (m i : ℕ) (xs : List A) → count m (firsts (enumerate_from i xs)) ≤ 1
each_once m i [] = omega arith
each_once m i (x ∷ xs) = elim (cases_eq m i) [
  | inl same ↦
      let none = low_none m (i + 1) xs (omega (arith, same)) in
      let is : nat_eq m i ≡ true = grind (arith, nat_tests, same) in
      subst (λ (t : Bool). (if t then 1 else 0) + count m (firsts (enumerate_from (i + 1) xs)) ≤ 1) (sym is) (omega (arith, none))
  | inr other ↦
      let rest = each_once m (i + 1) xs in
      let is : nat_eq m i ≡ false = grind (arith, nat_tests, other) in
      subst (λ (t : Bool). (if t then 1 else 0) + count m (firsts (enumerate_from (i + 1) xs)) ≤ 1) (sym is) (omega (arith, rest))
]

pub firsts_of : (k : ℕ) (ms : List ℕ) → firsts {A = ℕ} (map {A = ℕ} {B = ℕ × ℕ} (λ m. (m, k)) ms) ≡ ms
firsts_of k [] = refl
firsts_of k (m ∷ ms) = ap (λ (xs : List ℕ). m ∷ xs) (firsts_of k ms)

pub all_firsts : (k : ℕ) (rss : List (List Reply)) → firsts (all_printed k rss) ≡ all_numbers rss
all_firsts k [] = refl
all_firsts k (rs ∷ rss) =
    map-append (λ (p : ℕ × ℕ). p.0) (map (λ m. (m, k)) (printed rs)) (all_printed (k + 1) rss)
    ∙ ap₂ (λ (x y : List ℕ). x ++ y) (firsts_of k (printed rs)) (all_firsts (k + 1) rss)
