-- The lines of a file, one after the other, and how many there are.
use Rattle.std.proofs.Common.{arith, ◌≡◌, refl, ap, sym, ◌∙◌, ℕ, suc, ◌+◌, ◌-◌, List, [], ◌∷◌, ◌++◌, length, take, drop, get_or, Bool, true, false, cond, not, Some, None, one-add, add-one}
use Rattle.std.specs.Prelude.{◌==◌, ◌||◌, if◌then◌else◌, count_by, Result, Ok, Err}
use Rattle.std.specs.List.{prefix_len, before_first, after_first}
use Rattle.std.proofs.lemmas.Bool.Decides.{nat_tests}
use Rattle.std.proofs.lemmas.List.{append_assoc}
use Rattle.std.proofs.lemmas.List.Sums.{sum_by-cons}
use Rattle.mdb_datum.specs.Bytes.{Bytes}
use Rattle.mdb_schema.specs.Tests.{◌>>=◌}
use Rattle.client_script.specs.Lines.{first_from, lines_of}
use Rattle.client_script.specs.Refusal.{ScriptRefusal}
use Rattle.client_script.specs.Script.{line_in, lines_in}
use Rattle.client_script.specs.inner.FirstLine.{first_line, is_ended}
use Rattle.client_script.specs.declared.line.Line.{Line}

-- lines that were read, and then what the others read as
abbrev pub put_before : List Line → Result (List Line) ScriptRefusal → Result (List Line) ScriptRefusal
put_before done (Ok lines) = Ok (done ++ lines)
put_before done (Err why) = Err why

abbrev is_feed : ℕ → Bool
is_feed b = b == 10

abbrev in_line : ℕ → Bool
in_line b = not (b == 10)

-- ---- the first line and the others

pub lines_of-cons : (b : ℕ) (bs : Bytes) → lines_of (b ∷ bs) ≡ before_first is_feed (b ∷ bs) ∷ lines_of (after_first is_feed (b ∷ bs))
lines_of-cons b [] = by_byte (b == 10)
  where
    by_byte : (t : Bool) → (if t then [] ∷ lines_of [] else first_from b (lines_of []))
        ≡ take (cond (not t) (1 + prefix_len in_line []) 0) (b ∷ []) ∷ lines_of (drop (cond (not t) (1 + prefix_len in_line []) 0 + 1) (b ∷ []))
    by_byte true = refl
    by_byte false = refl
lines_of-cons b (c ∷ cs) = by_byte (b == 10) (lines_of-cons c cs)
  where
    by_byte : (t : Bool) → lines_of (c ∷ cs) ≡ take (prefix_len in_line (c ∷ cs)) (c ∷ cs) ∷ lines_of (drop (prefix_len in_line (c ∷ cs) + 1) (c ∷ cs))
        → (if t then [] ∷ lines_of (c ∷ cs) else first_from b (lines_of (c ∷ cs)))
        ≡ take (cond (not t) (1 + prefix_len in_line (c ∷ cs)) 0) (b ∷ c ∷ cs) ∷ lines_of (drop (cond (not t) (1 + prefix_len in_line (c ∷ cs)) 0 + 1) (b ∷ c ∷ cs))
    by_byte true rest = refl
    by_byte false rest = ap (first_from b) rest ∙ longer (prefix_len in_line (c ∷ cs)) (c ∷ cs)
      where
        longer : (n : ℕ) (xs : Bytes) → (b ∷ take n xs) ∷ lines_of (drop (n + 1) xs) ≡ take (1 + n) (b ∷ xs) ∷ lines_of (drop (1 + n + 1) (b ∷ xs))
        longer n xs = rw (one-add n, add-one (suc n), add-one n) refl

some_length : (n : ℕ) → (suc n == 0) ≡ false
some_length n = grind (arith, nat_tests)

first_line-cons : (b : ℕ) (bs : Bytes) → first_line (b ∷ bs) ≡ Some (before_first is_feed (b ∷ bs), after_first is_feed (b ∷ bs))
first_line-cons b bs =
    ap (λ (t : Bool). if t then None else Some (before_first is_feed (b ∷ bs), after_first is_feed (b ∷ bs))) (some_length (length bs))

-- the lines begin with the first
pub lines_of-first : (bs : Bytes) (p : Bytes × Bytes) → Some p ≡ first_line bs → lines_of bs ≡ p.0 ∷ lines_of p.1
lines_of-first [] p e = cc
lines_of-first (b ∷ bs) p e =
    let there = e ∙ first_line-cons b bs in
    let is : (before_first is_feed (b ∷ bs), after_first is_feed (b ∷ bs)) ≡ p = cc in
    lines_of-cons b bs ∙ ap (λ q. q.0 ∷ lines_of q.1) is

-- ---- what lines read as

pub lines_in-read : (n : ℕ) (l : Bytes) (ls : List Bytes) (found : List Line) → line_in n l ≡ Ok found → lines_in n (l ∷ ls) ≡ put_before found (lines_in (n + 1) ls)
lines_in-read n l ls found e =
    ap (λ (r : Result (List Line) ScriptRefusal). r >>= (λ first. lines_in (n + 1) ls >>= (λ others. Ok (first ++ others)))) e ∙ by_rest (lines_in (n + 1) ls)
  where
    by_rest : (r : Result (List Line) ScriptRefusal) → (r >>= (λ others. Ok (found ++ others))) ≡ put_before found r
    by_rest (Ok others) = refl
    by_rest (Err why) = refl

pub lines_in-refused : (n : ℕ) (l : Bytes) (ls : List Bytes) (why : ScriptRefusal) → line_in n l ≡ Err why → lines_in n (l ∷ ls) ≡ Err why
lines_in-refused n l ls why e =
    ap (λ (r : Result (List Line) ScriptRefusal). r >>= (λ first. lines_in (n + 1) ls >>= (λ others. Ok (first ++ others)))) e

pub put_before-put_before : (xs ys : List Line) (r : Result (List Line) ScriptRefusal) → put_before xs (put_before ys r) ≡ put_before (xs ++ ys) r
put_before-put_before xs ys (Ok zs) = ap Ok (sym (append_assoc xs ys zs))
put_before-put_before xs ys (Err why) = refl

-- ---- how many lines there are

-- 1 where the last line lacks its line feed
abbrev pub open_end : Bytes → ℕ
open_end bs = cond (is_ended bs) 0 1

open_end-last : (b : ℕ) (bs : Bytes) → open_end (b ∷ bs) ≡ cond (get_or (b ∷ bs) (length bs) 0 == 10) 0 1
open_end-last b bs =
    let place : length (b ∷ bs) - 1 ≡ length bs = omega arith in
    let last : ℕ → ℕ = λ n. cond (get_or (b ∷ bs) n 0 == 10) 0 1 in
    let some : open_end (b ∷ bs) ≡ last (length (b ∷ bs) - 1) =
    ap (λ (t : Bool). cond (t || (get_or (b ∷ bs) (length (b ∷ bs) - 1) 0 == 10)) 0 1) (some_length (length bs)) in
    some ∙ ap last place

open_end-cons : (b c : ℕ) (cs : Bytes) → open_end (b ∷ c ∷ cs) ≡ open_end (c ∷ cs)
open_end-cons b c cs = open_end-last b (c ∷ cs) ∙ sym (open_end-last c cs)

length-first_from : (b c : ℕ) (cs : Bytes) → length (first_from b (lines_of (c ∷ cs))) ≡ length (lines_of (c ∷ cs))
length-first_from b c cs = ap (λ ls. length (first_from b ls)) (lines_of-cons c cs) ∙ ap length (sym (lines_of-cons c cs))

abbrev pub feeds : Bytes → ℕ
feeds bs = count_by (λ b. b == 10) bs

feeds-cons : (b : ℕ) (bs : Bytes) → feeds (b ∷ bs) ≡ cond (b == 10) 1 0 + feeds bs
feeds-cons b bs = sum_by-cons (λ x. cond (x == 10) 1 0) b bs

pub length-lines_of : (bs : Bytes) → length (lines_of bs) ≡ feeds bs + open_end bs
length-lines_of [] = refl
length-lines_of (b ∷ []) = by_byte (b == 10) ∙ ap (λ n. n + cond (b == 10) 0 1) (sym (feeds-cons b [])) ∙ ap (λ n. feeds (b ∷ []) + n) (sym (open_end-last b []))
  where
    by_byte : (t : Bool) → length (if t then [] ∷ lines_of [] else first_from b (lines_of [])) ≡ cond t 1 0 + feeds [] + cond t 0 1
    by_byte true = refl
    by_byte false = refl
length-lines_of (b ∷ c ∷ cs) =
    by_byte (b == 10) (length-lines_of (c ∷ cs))
    ∙ ap (λ n. n + open_end (c ∷ cs)) (sym (feeds-cons b (c ∷ cs)))
    ∙ ap (λ n. feeds (b ∷ c ∷ cs) + n) (sym (open_end-cons b c cs))
  where
    by_byte : (t : Bool) → length (lines_of (c ∷ cs)) ≡ feeds (c ∷ cs) + open_end (c ∷ cs)
        → length (if t then [] ∷ lines_of (c ∷ cs) else first_from b (lines_of (c ∷ cs))) ≡ cond t 1 0 + feeds (c ∷ cs) + open_end (c ∷ cs)
    by_byte true rest = omega (arith, rest)
    by_byte false rest = length-first_from b c cs ∙ rest ∙ omega arith

pub ended_lines : (bs : Bytes) → is_ended bs ≡ true → length (lines_of bs) ≡ feeds bs
ended_lines bs e = length-lines_of bs ∙ ap (λ (t : Bool). feeds bs + cond t 0 1) e ∙ omega arith

pub open_lines : (bs : Bytes) → is_ended bs ≡ false → length (lines_of bs) ≡ feeds bs + 1
open_lines bs e = length-lines_of bs ∙ ap (λ (t : Bool). feeds bs + cond t 0 1) e

-- ---- one more line

-- a line that was read stands behind those before it
pub read_on : (n : ℕ) (text rest : Bytes) (p : Bytes × Bytes) (lines found now : List Line)
    → Some p ≡ first_line rest → lines_in 1 (lines_of text) ≡ put_before lines (lines_in n (lines_of rest)) → line_in n p.0 ≡ Ok found → now ≡ lines ++ found
    → lines_in 1 (lines_of text) ≡ put_before now (lines_in (n + 1) (lines_of p.1))
read_on n text rest p lines found now there so_far is pushed =
    so_far
    ∙ ap (λ ls. put_before lines (lines_in n ls)) (lines_of-first rest p there)
    ∙ ap (put_before lines) (lines_in-read n p.0 (lines_of p.1) found is)
    ∙ put_before-put_before lines found (lines_in (n + 1) (lines_of p.1))
    ∙ ap (λ ls. put_before ls (lines_in (n + 1) (lines_of p.1))) (sym pushed)

-- a line that breaks a rule refuses the whole
pub refused_on : (n : ℕ) (text rest : Bytes) (p : Bytes × Bytes) (lines : List Line) (why : ScriptRefusal)
    → Some p ≡ first_line rest → lines_in 1 (lines_of text) ≡ put_before lines (lines_in n (lines_of rest)) → line_in n p.0 ≡ Err why
    → lines_in 1 (lines_of text) ≡ Err why
refused_on n text rest p lines why there so_far is =
    so_far
    ∙ ap (λ ls. put_before lines (lines_in n ls)) (lines_of-first rest p there)
    ∙ ap (put_before lines) (lines_in-refused n p.0 (lines_of p.1) why is)
