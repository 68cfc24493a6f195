-- A number's text that has neither a point nor an exponent, and fits a `u64` or an `i64`.
use Rattle.std.proofs.Common.{◌≡◌, ◌∙◌, ℕ, zero, suc, ◌<◌, ◌≤◌, ◌^◌, ◌==◌, ℤ, pos, List, get_or, drop, true, false, Option, Some, None, IfSome, int_lt, w64, to_z, of_z, to_z-of_z, sym, ap, subst, lt-ltb, le-leb, arith}
use Rattle.std.specs.Prelude.{FitsSigned}
use Rattle.std.specs.Option.{SomeIff}
use Rattle.std.proofs.lemmas.Bool.{false≢true}
use Rattle.fast_float.specs.Text.{Parts, scan, digits_of, with_sign, IsInteger}
use Rattle.serde_json.specs.Data.{unsigned, negative}
use Rattle.serde_json.specs.Read.{number_of, number_from}

from_parts : (p : Parts) (n : ℕ) → IsInteger p → digits_of p < 2 ^ 64 → n ≡ digits_of p → number_from false p ≡ Some (unsigned n)
from_parts p n whole fits is = rw (lt-ltb _ _ whole.0, whole.1, whole.2, lt-ltb _ _ fits) (ap (λ m. Some (unsigned m)) (sym is))

number_of-unsigned : (s : List ℕ) (n : ℕ) → (get_or s 0 0 == 45) ≡ false → IsInteger (scan s) × (digits_of (scan s) < 2 ^ 64) → n ≡ digits_of (scan s) → number_of s ≡ Some (unsigned n)
unfolding number_of
number_of-unsigned s n no_minus h is = rw no_minus (from_parts (scan s) n h.0 h.1 is)

pub unsigned_read : (s : List ℕ) (p : Parts) (r : Option ℕ) → (get_or s 0 0 == 45) ≡ false → p ≡ scan s → SomeIff r (IsInteger p × (digits_of p < 2 ^ 64)) (digits_of p)
    → IfSome r (λ n. number_of s ≡ Some (unsigned n))
unsigned_read s p None no_minus is h = tt
unsigned_read s p (Some n) no_minus is h =
    let q = subst (λ (k : Parts). (IsInteger k × (digits_of k < 2 ^ 64)) × (n ≡ digits_of k)) is h in
    number_of-unsigned s n no_minus q.0 q.1

below_zero : (n : ℕ) → FitsSigned w64 (with_sign true n) → int_lt (with_sign true n) (pos 0) ≡ true → (0 < n) × (n ≤ 2 ^ 63)
below_zero zero fits less = absurd (false≢true less)
below_zero (suc m) fits less = (omega arith, omega (arith, fits))

from_negative_parts : (p : Parts) (z : ℤ) → IsInteger p → (0 < digits_of p) × (digits_of p ≤ 2 ^ 63) → z ≡ with_sign true (digits_of p) → number_from true p ≡ Some (negative z)
from_negative_parts p z whole fits is = rw (lt-ltb _ _ whole.0, whole.1, whole.2, lt-ltb _ _ fits.0, le-leb _ _ fits.1) (ap (λ y. Some (negative y)) (sym is))

number_of-negative : (s : List ℕ) (z : ℤ) → (get_or s 0 0 == 45) ≡ true → IsInteger (scan (drop 1 s)) × FitsSigned w64 (with_sign true (digits_of (scan (drop 1 s)))) → z ≡ with_sign true (digits_of (scan (drop 1 s)))
    → int_lt z (pos 0) ≡ true → number_of s ≡ Some (negative z)
unfolding number_of
number_of-negative s z minus h is less =
    rw minus (from_negative_parts (scan (drop 1 s)) z h.0 (below_zero (digits_of (scan (drop 1 s))) h.1 (ap (λ y. int_lt y (pos 0)) (sym is) ∙ less)) is)

-- the bits of the number are those of an `i64`, which stand for the number itself
pub negative_read : (s : List ℕ) (p : Parts) (z : ℤ) → (get_or s 0 0 == 45) ≡ true → p ≡ scan (drop 1 s) → (IsInteger p × FitsSigned w64 (with_sign true (digits_of p))) × (z ≡ with_sign true (digits_of p))
    → int_lt (to_z w64 (of_z w64 z)) (pos 0) ≡ true → number_of s ≡ Some (negative (to_z w64 (of_z w64 z)))
negative_read s p z minus is h less =
    let q = subst (λ (k : Parts). (IsInteger k × FitsSigned w64 (with_sign true (digits_of k))) × (z ≡ with_sign true (digits_of k))) is h in
    let same : to_z w64 (of_z w64 z) ≡ z = to_z-of_z (subst (λ (y : ℤ). FitsSigned w64 y) (sym h.1) h.0.1) in
    number_of-negative s z minus q.0 q.1 (ap (λ y. int_lt y (pos 0)) (sym same) ∙ less) ∙ ap (λ y. Some (negative y)) (sym same)
