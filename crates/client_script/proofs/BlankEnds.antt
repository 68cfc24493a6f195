-- Where blanks end and words end: the places as numbers, and that a text may be cut there.
use Rattle.std.proofs.Common.{arith, ◌≡◌, refl, ap, sym, subst, ◌∙◌, ℕ, zero, suc, ◌+◌, ◌-◌, ◌<◌, ◌≤◌, [], ◌∷◌, ◌++◌, length, take, drop, get_or, Bool, true, false, cond, not, one-add, add-one, length-drop}
use Rattle.std.specs.Prelude.{if◌then◌else◌, reverse, nat_lt}
use Rattle.std.specs.List.{prefix_len}
use Rattle.std.specs.Str.{IsUtf8, IsCharBoundary}
use Rattle.std.proofs.lemmas.Bool.Decides.{nat_tests}
use Rattle.std.proofs.lemmas.List.{take_at, take-append-drop, reverse-append, reverse-reverse, length-reverse, get_or-reverse}
use Rattle.std.proofs.lemmas.List.Sums.{prefix_len-le-length, prefix_len_passes, prefix_len_stops}
use Rattle.std.proofs.lemmas.Str.{IsCharBoundary-start, IsCharBoundary-end, IsCharBoundary-before_ascii, IsCharBoundary-after_ascii}
use Rattle.mdb_datum.specs.Bytes.{Bytes}
use Rattle.client_script.specs.Lines.{is_blank, after_blanks, word_text, word_rest}

-- a byte of a word
abbrev pub is_dark : ℕ → Bool
is_dark b = not (is_blank b)

pub after_blanks-drop : (s : Bytes) → after_blanks s ≡ drop (prefix_len is_blank s) s
after_blanks-drop [] = refl
after_blanks-drop (b ∷ bs) = by_byte (is_blank b) (after_blanks-drop bs)
  where
    by_byte : (t : Bool) → after_blanks bs ≡ drop (prefix_len is_blank bs) bs
        → (if t then after_blanks bs else b ∷ bs) ≡ drop (cond t (1 + prefix_len is_blank bs) 0) (b ∷ bs)
    by_byte true rest = rw one-add rest
    by_byte false rest = refl

pub word_text-take : (s : Bytes) → word_text s ≡ take (prefix_len is_dark s) s
word_text-take [] = refl
word_text-take (b ∷ bs) = by_byte (is_blank b) (word_text-take bs)
  where
    by_byte : (t : Bool) → word_text bs ≡ take (prefix_len is_dark bs) bs
        → (if t then [] else b ∷ word_text bs) ≡ take (cond (not t) (1 + prefix_len is_dark bs) 0) (b ∷ bs)
    by_byte true rest = refl
    by_byte false rest = rw one-add (ap (λ l. b ∷ l) rest)

pub word_rest-drop : (s : Bytes) → word_rest s ≡ after_blanks (drop (prefix_len is_dark s) s)
word_rest-drop [] = refl
word_rest-drop (b ∷ bs) = by_byte (is_blank b) refl (word_rest-drop bs)
  where
    by_byte : (t : Bool) → is_blank b ≡ t → word_rest bs ≡ after_blanks (drop (prefix_len is_dark bs) bs)
        → (if t then after_blanks bs else word_rest bs) ≡ after_blanks (drop (cond (not t) (1 + prefix_len is_dark bs) 0) (b ∷ bs))
    by_byte true is rest = sym (ap (λ u. if u then after_blanks bs else b ∷ bs) is)
    by_byte false is rest = rw one-add rest

-- cutting at the end is cutting the reversed list at its start
pub reverse-drop : (n : ℕ) (s : Bytes) → reverse (drop n (reverse s)) ≡ take (length s - n) s
reverse-drop n s =
    let back : Bytes = reverse s in
    let split : reverse (drop n back) ++ reverse (take n back) ≡ s =
    sym (reverse-append (take n back) (drop n back)) ∙ ap reverse (take-append-drop n back) ∙ reverse-reverse s in
    let size : length (reverse (drop n back)) ≡ length s - n =
    length-reverse (drop n back) ∙ length-drop n back ∙ ap (λ k. k - n) (length-reverse s) in
    sym (ap (take (length s - n)) (sym split) ∙ take_at (reverse (drop n back)) (reverse (take n back)) (length s - n) size)

pub blanks_cut : (s : Bytes) → reverse (after_blanks (reverse s)) ≡ take (length s - prefix_len is_blank (reverse s)) s
blanks_cut s = ap reverse (after_blanks-drop (reverse s)) ∙ reverse-drop (prefix_len is_blank (reverse s)) s

-- ---- a text may be cut there

blank_ascii : (b : ℕ) → is_blank b ≡ true → b < 128
blank_ascii b h = grind (arith, nat_tests)

not_false : (t : Bool) → not t ≡ false → t ≡ true
not_false true h = refl
not_false false h = cc

pub boundary_after_blanks : (s : Bytes) → IsUtf8 s → IsCharBoundary s (prefix_len is_blank s)
boundary_after_blanks s u = by_count (prefix_len is_blank s) refl
  where
    by_count : (n : ℕ) → prefix_len is_blank s ≡ n → IsCharBoundary s n
    by_count zero is = IsCharBoundary-start s u
    by_count (suc k) is =
        let low : k < prefix_len is_blank s = omega (arith, is) in
        let within : k < length s = omega (arith, low, prefix_len-le-length is_blank s) in
        let ascii : get_or s k 0 < 128 = blank_ascii (get_or s k 0) (prefix_len_passes is_blank s k 0 low) in
        rw (← add-one k) (IsCharBoundary-after_ascii s k u within ascii)

pub boundary_after_word : (s : Bytes) → IsCharBoundary s (prefix_len is_dark s)
boundary_after_word s = by_test (nat_lt (prefix_len is_dark s) (length s)) refl
  where
    by_test : (t : Bool) → nat_lt (prefix_len is_dark s) (length s) ≡ t → IsCharBoundary s (prefix_len is_dark s)
    by_test true is =
        let within : prefix_len is_dark s < length s = grind (arith, nat_tests) in
        IsCharBoundary-before_ascii s (prefix_len is_dark s) within
        (blank_ascii (get_or s (prefix_len is_dark s) 0) (not_false (is_blank (get_or s (prefix_len is_dark s) 0)) (prefix_len_stops is_dark s 0 within)))
    by_test false is =
        let past : length s ≤ prefix_len is_dark s = grind (arith, nat_tests) in
        let all : length s ≡ prefix_len is_dark s = omega (arith, past, prefix_len-le-length is_dark s) in
        subst (λ n. IsCharBoundary s n) all (IsCharBoundary-end s)

pub boundary_before_blanks : (s : Bytes) → IsCharBoundary s (length s - prefix_len is_blank (reverse s))
boundary_before_blanks s = by_count (prefix_len is_blank (reverse s)) refl
  where
    by_count : (n : ℕ) → prefix_len is_blank (reverse s) ≡ n → IsCharBoundary s (length s - n)
    by_count zero is =
        let all : length s ≡ length s - 0 = omega arith in
        subst (λ n. IsCharBoundary s n) all (IsCharBoundary-end s)
    by_count (suc k) is =
        let low : k < prefix_len is_blank (reverse s) = omega (arith, is) in
        let within : k < length s = omega (arith, low, prefix_len-le-length is_blank (reverse s), length-reverse s) in
        let place : length s - 1 - k ≡ length s - suc k = omega arith in
        let read : get_or (reverse s) k 0 ≡ get_or s (length s - suc k) 0 = get_or-reverse s k 0 within ∙ ap (λ n. get_or s n 0) place in
        let blank : is_blank (get_or s (length s - suc k) 0) ≡ true = ap is_blank (sym read) ∙ prefix_len_passes is_blank (reverse s) k 0 low in
        let on : length s - suc k < length s = omega arith in
        IsCharBoundary-before_ascii s (length s - suc k) on (blank_ascii (get_or s (length s - suc k) 0) blank)
