-- Numbers stand in the order of their keys.
use Rattle.std.proofs.Common.{◌≡◌, ℕ, zero, suc, ◌+◌, ◌*◌, ◌/◌, ◌%◌, ◌^◌, ◌<◌, ◌≤◌, Bool, true, false, Some, None, ℤ, pos, negsuc, ◌+ℤ◌, ◌<ℤ◌, nat_lt, if◌then◌else◌, refl, sym, ap, subst, ◌∙◌, arith}
use Rattle.std.proofs.lemmas.Bool.Decides.{nat_tests}
use Rattle.std.specs.Ordering.{nat_cmp, int_cmp, ordering_then, MatchOrdering}
use Rattle.std.specs.declared.cmp.Ordering.{Ordering}
use Rattle.std.specs.declared.cmp.Ordering.TheVariants.{Less, Equal, Greater}
use Rattle.std.specs.Cmp.{nat_cmp_is, int_cmp_is, int_ranks, ranks}
use Rattle.std.specs.Cmp.Lexicographic.{slice_cmp}
use Rattle.std.proofs.lemmas.Nat.{mod-pow-add, pow_pos}
use Rattle.std.proofs.lemmas.Int.{ints}
use Rattle.std.proofs.Math.Nat.{mul-le-mul_left, mod-eq_of_lt}
use Rattle.mdb_encode.specs.Bytes.{Bytes, byte_order}
use Rattle.mdb_encode.specs.Keys.{big_endian, unsigned_key, signed_key}
use Rattle.mdb_encode.specs.Laws.{KeepOrder}
use Rattle.mdb_encode.proofs.BigEndian.{two_pow_eight}

abbrev Ranks : Ordering → ℕ → ℕ → Type 0
Ranks o x y = MatchOrdering o (x < y) (x ≡ y) (y < x)

higher : (p q r q' r' : ℕ) → r < p → q < q' → q * p + r < q' * p + r'
higher p q r q' r' small above =
    let room : suc q ≤ q' = omega arith in
    let wide : p * suc q ≤ p * q' = mul-le-mul_left p room in
    omega arith

-- the order of the upper parts counts first
ranked_parts : (p q r q' r' : ℕ) (o o' : Ordering) → r < p → r' < p → Ranks o q q' → Ranks o' r r'
    → Ranks (ordering_then o o') (q * p + r) (q' * p + r')
ranked_parts p q r q' r' Less o' small small' above below = higher p q r q' r' small above
ranked_parts p q r q' r' Greater o' small small' above below = higher p q' r' q r small' above
ranked_parts p q r q' r' Equal Less small small' above below = let same = ap (λ n. n * p) above in omega (arith, same)
ranked_parts p q r q' r' Equal Equal small small' above below = let same = ap (λ n. n * p) above in omega (arith, same)
ranked_parts p q r q' r' Equal Greater small small' above below = let same = ap (λ n. n * p) above in omega (arith, same)

some_bytes : (w : ℕ) → 0 < 256 ^ w
some_bytes w = let P : ℕ → Type 0 = λ n. 0 < n in subst P (two_pow_eight w) (pow_pos (8 * w))

below : (a p : ℕ) → 0 < p → a % p < p
below a p some = omega arith

-- one byte more
mod_more : (w a : ℕ) → a % 256 ^ suc w ≡ (a / 256 ^ w % 256) * 256 ^ w + a % 256 ^ w
mod_more w a =
    let eight : 8 * suc w ≡ 8 + 8 * w = omega arith in
    ap (λ n. a % n) (sym (two_pow_eight (suc w)) ∙ ap (λ n. 2 ^ n) eight)
    ∙ mod-pow-add a 8 (8 * w)
    ∙ ap (λ n. (a / n % 256) * n + a % n) (two_pow_eight w)

-- as many bytes as are written keep the order
pub big_endian_order : (w a b : ℕ)
    → slice_cmp nat_cmp (big_endian w a) (big_endian w b) ≡ nat_cmp (a % 256 ^ w) (b % 256 ^ w)
big_endian_order zero a b = nat_cmp_is (a % 1) (b % 1) Equal (omega arith)
big_endian_order (suc w) a b =
    let upper = a / 256 ^ w % 256 in
    let upper' = b / 256 ^ w % 256 in
    let lower = a % 256 ^ w in
    let lower' = b % 256 ^ w in
    ap (λ o. ordering_then (nat_cmp upper upper') o) (big_endian_order w a b)
    ∙ nat_cmp_is (upper * 256 ^ w + lower) (upper' * 256 ^ w + lower') (ordering_then (nat_cmp upper upper') (nat_cmp lower lower'))
    (ranked_parts (256 ^ w) upper lower upper' lower' (nat_cmp upper upper') (nat_cmp lower lower') (below a _ (some_bytes w)) (below b _ (some_bytes w)) (ranks upper upper') (ranks lower lower'))
    ∙ ap (λ n. nat_cmp n (upper' * 256 ^ w + lower')) (sym (mod_more w a))
    ∙ ap (nat_cmp (a % 256 ^ suc w)) (sym (mod_more w b))

-- numbers that fit keep the order of their keys
fitting_order : (w a b : ℕ) → a < 256 ^ w → b < 256 ^ w
    → slice_cmp nat_cmp (big_endian w a) (big_endian w b) ≡ nat_cmp a b
fitting_order w a b fits fits' =
    let same : a % 256 ^ w ≡ a = mod-eq_of_lt fits in
    let same' : b % 256 ^ w ≡ b = mod-eq_of_lt fits' in
    big_endian_order w a b ∙ ap (λ n. nat_cmp n (b % 256 ^ w)) same ∙ ap (nat_cmp a) same'

whole_ranks : (o : Ordering) (a b : ℕ) → Ranks o a b
    → MatchOrdering o (pos a <ℤ pos b) (pos a ≡ pos b) (pos b <ℤ pos a)
whole_ranks Less a b h = omega (arith, ints)
whole_ranks Equal a b h = ap pos h
whole_ranks Greater a b h = omega (arith, ints)

whole_cmp : (a b : ℕ) → nat_cmp a b ≡ int_cmp (pos a) (pos b)
whole_cmp a b = int_cmp_is (pos a) (pos b) (nat_cmp a b) (whole_ranks (nat_cmp a b) a b (ranks a b))

-- a key of a number is its bytes, and the number fits
fits_key : (w n : ℕ) (b : Bool) (k : Bytes) → b ≡ nat_lt n (256 ^ w)
    → (if b then Some (big_endian w n) else None) ≡ Some k → (n < 256 ^ w) × (big_endian w n ≡ k)
fits_key w n true k is e = (grind (arith, nat_tests), cc)
fits_key w n false k is e = cc

pub unsigned_order : KeepOrder unsigned_key
unsigned_order w (pos a) (pos b) j k first second =
    let f = fits_key w a (nat_lt a (256 ^ w)) j refl first in
    let s = fits_key w b (nat_lt b (256 ^ w)) k refl second in
    ap (λ x. byte_order x k) (sym f.1) ∙ ap (byte_order (big_endian w a)) (sym s.1)
    ∙ fitting_order w a b f.0 s.0 ∙ whole_cmp a b
unsigned_order w (negsuc a) y j k first second = cc
unsigned_order w (pos a) (negsuc b) j k first second = cc

moved_ranks : (o : Ordering) (x y : ℤ) (h : ℕ) → MatchOrdering o (x <ℤ y) (x ≡ y) (y <ℤ x)
    → MatchOrdering o ((x +ℤ pos h) <ℤ (y +ℤ pos h)) (x +ℤ pos h ≡ y +ℤ pos h) ((y +ℤ pos h) <ℤ (x +ℤ pos h))
moved_ranks Less x y h r = omega (arith, ints)
moved_ranks Equal x y h r = ap (λ z. z +ℤ pos h) r
moved_ranks Greater x y h r = omega (arith, ints)

pub signed_order : KeepOrder signed_key
signed_order w x y j k first second =
    let h = 256 ^ w / 2 in
    unsigned_order w (x +ℤ pos h) (y +ℤ pos h) j k first second
    ∙ sym (int_cmp_is (x +ℤ pos h) (y +ℤ pos h) (int_cmp x y) (moved_ranks (int_cmp x y) x y h (int_ranks x y)))
