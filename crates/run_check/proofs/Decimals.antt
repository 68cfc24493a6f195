-- Numbers as they are written.
use Rattle.std.proofs.Common.{arith, ◌≡◌, refl, ap, subst, sym, ◌∙◌, ℕ, zero, suc, ◌+◌, ◌-◌, ◌*◌, ◌^◌, ◌<◌, ◌≤◌, [], ◌∷◌, length, take, drop, get_or, one-add, cond, Bool, true, false, Option, Some, None, option_map}
use Rattle.std.specs.Prelude.{nat_lt, if◌then◌else◌, unwrap_or}
use Rattle.std.specs.Char.{digit_value}
use Rattle.std.specs.List.{list_all, prefix_len, take_while}
use Rattle.std.proofs.Math.ListN.{drop_of_length-le}
use Rattle.std.specs.Str.Parse.{digits_value, digits_value_after}
use Rattle.std.proofs.lemmas.Bool.{and_parts, and_from}
use Rattle.std.proofs.lemmas.Bool.Decides.{nat_tests}
use Rattle.std.proofs.lemmas.List.{drop_more}
use Rattle.mdb_datum.specs.Bytes.{Bytes}
use Rattle.client_script.specs.Parts.{is_digit}
use Rattle.run_check.specs.TextLines.{Numbered, fitting, number_first, number_of}

-- more digits make no smaller number
pub digits_grow : (n : ℕ) (ds : Bytes) → n ≤ digits_value_after 10 n ds
digits_grow n [] = omega arith
digits_grow n (d ∷ ds) = let more = digits_grow (n * 10 + digit_value d) ds in omega (arith, more)

pub digit_is : (d : ℕ) → is_digit d ≡ true → digit_value d ≡ d - 48
digit_is d digit = grind (arith, nat_tests, digit)

-- each element of a list of which all pass a test
pub each_passes : (p : ℕ → Bool) (xs : Bytes) (i d : ℕ) → list_all p xs ≡ true → i < length xs → p (get_or xs i d) ≡ true
each_passes p [] i d all lt = absurd (omega (arith, lt))
each_passes p (x ∷ xs) zero d all lt = (and_parts (p x) (list_all p xs) all).0
each_passes p (x ∷ xs) (suc i) d all lt = each_passes p xs i d (and_parts (p x) (list_all p xs) all).1 (omega (arith, lt))

-- the first elements that pass a test all do
pub first_pass : (p : ℕ → Bool) (xs : Bytes) → list_all p (take (prefix_len p xs) xs) ≡ true
first_pass p [] = refl
first_pass p (x ∷ xs) = of (p x) refl (first_pass p xs)
  where
    of : (t : Bool) → p x ≡ t → list_all p (take (prefix_len p xs) xs) ≡ true → list_all p (take (cond t (1 + prefix_len p xs) 0) (x ∷ xs)) ≡ true
    of true is rest = rw one-add (and_from (p x) (list_all p (take (prefix_len p xs) xs)) is rest)
    of false is rest = refl

-- one digit more: what is read so far, followed by those that are left, is the whole
pub digit_read : (ds : Bytes) (i n d whole : ℕ) → list_all is_digit ds ≡ true → i < length ds → d ≡ get_or ds i d → digits_value_after 10 n (drop i ds) ≡ whole → digits_value_after 10 (n * 10 + (d - 48)) (drop (i + 1) ds) ≡ whole
digit_read ds i n d whole all lt is left =
    let digit : is_digit d ≡ true = subst (λ (x : ℕ). is_digit x ≡ true) (sym is) (each_passes is_digit ds i d all lt) in
    let value : n * 10 + digit_value d ≡ n * 10 + (d - 48) = ap (λ (x : ℕ). n * 10 + x) (digit_is d digit) in
    ap (λ (x : ℕ). digits_value_after 10 x (drop (i + 1) ds)) (sym value)
    ∙ ap (λ (x : ℕ). digits_value_after 10 (n * 10 + digit_value x) (drop (i + 1) ds)) is
    ∙ sym (ap (digits_value_after 10 n) (drop_more ds i d lt))
    ∙ left

fitting_none : (n : ℕ) (t : Bool) → (if t then Some n else None) ≡ None → t ≡ false
fitting_none n true e = cc
fitting_none n false e = refl

over : (n : ℕ) → fitting n ≡ None → 2 ^ 64 ≤ n
over n e = let is = fitting_none n (nat_lt n (2 ^ 64)) e in grind (arith, nat_tests, is)

not_fitting : (n : ℕ) → 2 ^ 64 ≤ n → fitting n ≡ None
not_fitting n le = let is : nat_lt n (2 ^ 64) ≡ false = grind (arith, nat_tests, le) in rw is refl

-- so where it doesn't fit, the whole doesn't
pub too_large : (ds : Bytes) (m whole : ℕ) → digits_value_after 10 m ds ≡ whole → fitting m ≡ None → fitting whole ≡ None
too_large ds m whole left large =
    let more : m ≤ whole = subst (λ (x : ℕ). m ≤ x) left (digits_grow m ds) in
    not_fitting whole (omega (arith, more, over m large))

fitting_some : (x n : ℕ) (t : Bool) → nat_lt x (2 ^ 64) ≡ t → (if t then Some x else None) ≡ Some n → (n ≡ x) × (n < 2 ^ 64)
fitting_some x n true lt e =
    let is : n ≡ x = sym (ap (λ (o : Option ℕ). unwrap_or o n) e) in
    let small : x < 2 ^ 64 = grind (arith, nat_tests, lt) in
    (is, subst (λ (m : ℕ). m < 2 ^ 64) (sym is) small)
fitting_some x n false lt e = cc

-- what goes on with the next digit
pub value_next : (ds : Bytes) (i n d next : ℕ) (r : Option ℕ) → list_all is_digit ds ≡ true → i < length ds → d ≡ get_or ds i d → digits_value_after 10 n (drop i ds) ≡ digits_value 10 ds → r ≡ fitting (n * 10 + (d - 48)) → r ≡ Some next → (next < 2 ^ 64) × (digits_value_after 10 next (drop (i + 1) ds) ≡ digits_value 10 ds)
value_next ds i n d next r all lt is left told some =
    let fit = fitting_some (n * 10 + (d - 48)) next (nat_lt (n * 10 + (d - 48)) (2 ^ 64)) refl (sym told ∙ some) in
    (fit.1, ap (λ (m : ℕ). digits_value_after 10 m (drop (i + 1) ds)) fit.0 ∙ digit_read ds i n d (digits_value 10 ds) all lt is left)

-- what stops at a digit with which the number doesn't fit
pub value_none : (ds : Bytes) (i n d : ℕ) (r : Option ℕ) → list_all is_digit ds ≡ true → i < length ds → d ≡ get_or ds i d → digits_value_after 10 n (drop i ds) ≡ digits_value 10 ds → r ≡ fitting (n * 10 + (d - 48)) → r ≡ None → None ≡ fitting (digits_value 10 ds)
value_none ds i n d r all lt is left told none =
    sym (too_large (drop (i + 1) ds) (n * 10 + (d - 48)) (digits_value 10 ds) (digit_read ds i n d (digits_value 10 ds) all lt is left) (sym told ∙ none))

-- what comes to the end
pub value_all : (ds : Bytes) (i n : ℕ) → length ds ≤ i → n < 2 ^ 64 → digits_value_after 10 n (drop i ds) ≡ digits_value 10 ds → Some n ≡ fitting (digits_value 10 ds)
value_all ds i n le lt left =
    let whole : n ≡ digits_value 10 ds = ap (digits_value_after 10 n) (sym (drop_of_length-le ds le)) ∙ left in
    let fits : nat_lt n (2 ^ 64) ≡ true = grind (arith, nat_tests, lt) in
    sym (ap (λ (t : Bool). if t then Some n else None) fits) ∙ ap fitting whole

abbrev pub numbered_at : ℕ → Bytes → ℕ → Numbered
numbered_at n bs m = record { number = m; rest = drop n bs }

-- the number that bytes begin with
pub number_found : (bs front : Bytes) (n : ℕ) (r : Option ℕ) → n ≡ prefix_len is_digit bs → front ≡ take n bs → r ≡ number_of front → option_map (numbered_at n bs) r ≡ number_first bs
number_found bs front n r len is told =
    ap (option_map (numbered_at n bs)) (told ∙ ap number_of (is ∙ ap (λ (k : ℕ). take k bs) len))
    ∙ ap (λ (k : ℕ). option_map (numbered_at k bs) (number_of (take_while is_digit bs))) len
