-- Numbers in so many bytes, the most significant first.
use Rattle.std.proofs.Common.{◌≡◌, ◌++◌, ℕ, zero, suc, ◌+◌, ◌-◌, ◌*◌, ◌/◌, ◌%◌, ◌^◌, ◌<◌, List, [], ◌∷◌, length, ap, refl, sym, ◌∙◌, arith, bit_and, append_assoc}
use Rattle.std.proofs.lemmas.Nat.{and_mask, pow-add}
use Rattle.std.proofs.Math.Nat.{pow-suc}
use Rattle.mdb_encode.specs.Keys.{big_endian}

pub length_big_endian : (w n : ℕ) → w ≡ length (big_endian w n)
length_big_endian zero n = refl
length_big_endian (suc w) n = ap suc (length_big_endian w n)

-- a shift by 8 bits divides by 256
pub two_pow_eight : (k : ℕ) → 2 ^ (8 * k) ≡ 256 ^ k
two_pow_eight zero = refl
two_pow_eight (suc k) =
    let e : 8 * suc k ≡ 8 * k + 8 = omega arith in
    ap (λ n. 2 ^ n) e ∙ pow-add 2 (8 * k) 8 ∙ ap (λ n. n * 256) (two_pow_eight k)
    ∙ sym (pow-suc 256 k)

-- the byte that a shift and a mask pick out
pub byte_at : (n k : ℕ) → bit_and (n / 2 ^ (8 * k)) 255 ≡ n / 256 ^ k % 256
byte_at n k = and_mask (n / 2 ^ (8 * k)) 8 ∙ ap (λ d. n / d % 256) (two_pow_eight k)

-- one byte more is written
pub big_endian_more : (left n : ℕ) (key all more : List ℕ) → 0 < left
    → key ++ big_endian left n ≡ all → more ≡ key ++ bit_and (n / 2 ^ (8 * (left - 1))) 255 ∷ []
    → more ++ big_endian (left - 1) n ≡ all
big_endian_more zero n key all more h so_far pushed = absurd (omega arith)
big_endian_more (suc w) n key all more h so_far pushed =
    let e : suc w - 1 ≡ w = omega arith in
    let f = rw e at pushed in
    rw (e, f, byte_at n w) (append_assoc key _ _ ∙ so_far)
