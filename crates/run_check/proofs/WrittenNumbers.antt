-- What is read of a number that was written.
use Rattle.std.proofs.Common.{arith, ◌≡◌, refl, ap, ◌∙◌, ℕ, ◌+◌, ◌^◌, ◌<◌, ◌⊎◌, inl, inr, [], ◌∷◌, ◌++◌, length, take, drop, get_or, cond, not, Bool, true, false, ◌==◌, Option, Some, None, option_map, decimal, codes, one-add}
use Rattle.std.specs.Bool.{⊤}
use Rattle.std.specs.List.{list_all, prefix_len}
use Rattle.std.specs.Prelude.{if◌then◌else◌, nat_lt, option_and_then}
use Rattle.std.specs.Str.{bytes_eq}
use Rattle.std.specs.Str.Parse.{AllDigits, digits_value}
use Rattle.std.proofs.lemmas.Bool.{and_from, and_parts, cases_eq}
use Rattle.std.proofs.lemmas.Bool.Decides.{nat_tests}
use Rattle.std.proofs.lemmas.Fmt.{decimal_digit, decimal_is_IsNumeral, first_decimal}
use Rattle.std.proofs.lemmas.List.{drop_at, take_at}
use Rattle.std.proofs.lemmas.Slice.Eq.{bytes_eq-Decides}
use Rattle.std.proofs.lemmas.Str.Parse.{digit_from_value}
use Rattle.mdb_datum.specs.Bytes.{Bytes}
use Rattle.client_script.specs.Parts.{is_digit}
use Rattle.run_check.specs.Shape.{answer_in, behind_number, is_heading, rest_where}
use Rattle.run_check.specs.TextLines.{Numbered, behind, fitting, holds_of, is_written, number_behind, number_first, number_of}

-- ---- digits

-- no digit comes first
abbrev pub EndsNumber : Bytes → Type 0
EndsNumber [] = ⊤
EndsNumber (b ∷ bs) = is_digit b ≡ false

digits_len : (ds rest : Bytes) → list_all is_digit ds ≡ true → EndsNumber rest → prefix_len is_digit (ds ++ rest) ≡ length ds
digits_len [] [] all ends = refl
digits_len [] (b ∷ rest) all ends = ap (λ (t : Bool). cond t (1 + prefix_len is_digit rest) 0) ends
digits_len (d ∷ ds) rest all ends =
    let parts : (is_digit d ≡ true) × (list_all is_digit ds ≡ true) = and_parts (is_digit d) (list_all is_digit ds) all in
    ap (λ (t : Bool). cond t (1 + prefix_len is_digit (ds ++ rest)) 0) parts.0
    ∙ ap (λ (n : ℕ). 1 + n) (digits_len ds rest parts.1 ends)
    ∙ one-add (length ds)

all_digits : (ds : Bytes) → AllDigits 10 ds → list_all is_digit ds ≡ true
all_digits [] all = refl
all_digits (d ∷ ds) all =
    let low = digit_from_value d all.0 in
    let digit : is_digit d ≡ true = grind (arith, nat_tests, low) in
    and_from (is_digit d) (list_all is_digit ds) digit (all_digits ds all.1)

written_if : (ds : Bytes) → 0 < length ds → (48 < get_or ds 0 0) ⊎ (length ds ≡ 1) → is_written ds ≡ true
written_if [] some how = absurd (omega (arith, some))
written_if (b ∷ []) some how = refl
written_if (b ∷ c ∷ ds) some (inl first) = let other : (b == 48) ≡ false = grind (arith, nat_tests, first) in ap not other
written_if (b ∷ c ∷ ds) some (inr short) = absurd (omega (arith, short))

decimal_written : (n : ℕ) → n < 2 ^ 64 → is_written (decimal n) ≡ true
decimal_written n small = written_if (decimal n) (decimal_is_IsNumeral n small).0.0 (how (cases_eq n 0))
  where
    how : (n ≡ 0) ⊎ (n ≡ 0 → ⊥) → (48 < get_or (decimal n) 0 0) ⊎ (length (decimal n) ≡ 1)
    how (inl none) = inr (ap length (decimal_digit n (omega arith)))
    how (inr some) = inl (first_decimal n (omega arith) small)

decimal_read : (n : ℕ) → n < 2 ^ 64 → number_of (decimal n) ≡ Some n
decimal_read n small =
    let fits : nat_lt n (2 ^ 64) ≡ true = grind (arith, nat_tests, small) in
    ap (λ (t : Bool). if t then fitting (digits_value 10 (decimal n)) else None) (decimal_written n small)
    ∙ ap fitting (decimal_is_IsNumeral n small).1
    ∙ ap (λ (t : Bool). if t then Some n else None) fits

-- a number that was written is read, and so is what follows it
pub number_read : (n : ℕ) (rest : Bytes) → n < 2 ^ 64 → EndsNumber rest → number_first (decimal n ++ rest) ≡ Some (record { number = n; rest = rest })
number_read n rest small ends =
    let len : prefix_len is_digit (decimal n ++ rest) ≡ length (decimal n) = digits_len (decimal n) rest (all_digits (decimal n) (decimal_is_IsNumeral n small).0.1) ends in
    let found : ℕ → Option Numbered = λ k. option_map (λ m. record { number = m; rest = drop k (decimal n ++ rest) }) (number_of (take k (decimal n ++ rest))) in
    ap found len
    ∙ ap (λ (ds : Bytes). option_map (λ m. record { number = m; rest = drop (length (decimal n)) (decimal n ++ rest) }) (number_of ds)) (take_at (decimal n) rest (length (decimal n)) refl)
    ∙ ap (λ (bs : Bytes). option_map (λ m. record { number = m; rest = bs }) (number_of (decimal n))) (drop_at (decimal n) rest (length (decimal n)) refl)
    ∙ ap (option_map (λ m. record { number = m; rest = rest })) (decimal_read n small)

-- ---- words and numbers

same_byte : (b : ℕ) → (b == b) ≡ true
same_byte b = grind (arith, nat_tests)

pub behind_self : (w x : Bytes) → behind w (w ++ x) ≡ Some x
behind_self [] x = refl
behind_self (c ∷ w) x = ap (λ (t : Bool). if t then behind w (w ++ x) else None) (same_byte c) ∙ behind_self w x

pub same_bytes : (bs : Bytes) → bytes_eq bs bs ≡ true
same_bytes bs = (bytes_eq-Decides bs bs).1 refl

behind_its_number : (n : ℕ) (rest : Bytes) → n < 2 ^ 64 → EndsNumber rest → behind_number n (decimal n ++ rest) ≡ Some rest
behind_its_number n rest small ends =
    ap (option_and_then (rest_where n)) (number_read n rest small ends)
    ∙ ap (λ (t : Bool). if t then Some rest else None) (same_byte n)

-- LINE: ANSWER
pub answer_read : (n : ℕ) (answer : Bytes) → n < 2 ^ 64 → answer_in n (decimal n ++ (codes ": " ++ answer)) ≡ Some answer
answer_read n answer small = ap (option_and_then (behind (codes ": "))) (behind_its_number n (codes ": " ++ answer) small refl)

-- client K WORD
pub heading_read : (k : ℕ) (word : Bytes) → k < 2 ^ 64 → is_heading k word (codes "client " ++ (decimal k ++ (32 ∷ word))) ≡ true
heading_read k word small =
    ap (holds_of (λ rest. bytes_eq rest (32 ∷ word))) (behind_its_number k (32 ∷ word) small refl)
    ∙ same_bytes (32 ∷ word)

-- the number behind a word
pub number_after : (w rest : Bytes) (n : ℕ) → n < 2 ^ 64 → EndsNumber rest → number_behind w (w ++ (decimal n ++ rest)) ≡ Some n
number_after w rest n small ends =
    ap (λ (o : Option Bytes). option_map (λ (m : Numbered). m.number) (option_and_then number_first o)) (behind_self w (decimal n ++ rest))
    ∙ ap (option_map (λ (m : Numbered). m.number)) (number_read n rest small ends)
