-- The digits of a word give a number of 32 bits.
use Rattle.std.proofs.Common.{arith, ◌≡◌, ◌∙◌, ap, refl, ℕ, ◌<◌, ◌≤◌, ◌^◌, length, true}
use Rattle.std.specs.Prelude.{◌&&◌, Result, Ok, nat_lt, nat_le}
use Rattle.std.specs.Char.{is_ascii_digit}
use Rattle.std.specs.List.{list_all}
use Rattle.std.specs.Result.{result_ok}
use Rattle.std.specs.Str.Parse.{digits_value, ParsesUnsigned}
use Rattle.std.proofs.lemmas.Bool.{and_parts, and_from}
use Rattle.std.proofs.lemmas.Bool.Decides.{nat_tests}
use Rattle.std.proofs.lemmas.Str.Parse.{IsDigitsTest, IsNumeralModel, numerals_by_value, digits_value_short, parse_gives}
use Rattle.mdb_datum.specs.Bytes.{Bytes}
use Rattle.memdb.specs.Words.{is_number, number_in}

-- std's lemmas on `parse`, at this test of digits
all_digits : IsDigitsTest (λ ds. list_all is_ascii_digit ds ≡ true)
all_digits = record {
  empty = refl;
  parts = λ c cs h. let p = and_parts (is_ascii_digit c) (list_all is_ascii_digit cs) h in (grind (arith, nat_tests, p), p.1);
  more = λ c cs h rest. and_from (is_ascii_digit c) (list_all is_ascii_digit cs) (grind (arith, nat_tests, h)) rest;
}

own : IsNumeralModel (λ ds. list_all is_ascii_digit ds ≡ true) (digits_value 10)
own = numerals_by_value (λ ds. list_all is_ascii_digit ds ≡ true) all_digits

-- at most five digits are below 10^5
number_parsed : {E : Type 0} (word : Bytes) (r : Result ℕ E) → ParsesUnsigned 32 10 word r → is_number word ≡ true → r ≡ Ok (digits_value 10 word)
number_parsed word r parsed number =
    let p = and_parts (nat_lt 0 (length word) && nat_le (length word) 5) (list_all is_ascii_digit word) number in
    let q = and_parts (nat_lt 0 (length word)) (nat_le (length word) 5) p.0 in
    let some : 0 < length word = grind (arith, nat_tests, q) in
    let few : length word ≤ 5 = grind (arith, nat_tests, q) in
    let small : digits_value 10 word < 10 ^ 5 = digits_value_short own word 5 p.1 few in
    parse_gives own 32 word r parsed p.1 some (omega (arith, small))

-- so the parse gives what the definition says
pub number_read : {E : Type 0} (word : Bytes) (r : Result ℕ E) → ParsesUnsigned 32 10 word r → is_number word ≡ true → result_ok r ≡ number_in word
number_read word r parsed number = ap result_ok (number_parsed word r parsed number) ∙ rw number refl
