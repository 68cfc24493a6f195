-- A limit's digits give a number of 32 bits.
use Rattle.std.proofs.Common.{arith, ◌≡◌, refl, ℕ, ◌<◌, ◌≤◌, ◌^◌, length, true}
use Rattle.std.specs.Prelude.{◌&&◌, Result, Ok, nat_lt, nat_le}
use Rattle.std.specs.List.{list_all}
use Rattle.std.specs.Str.Parse.{digits_value, ParsesUnsigned}
use Rattle.std.proofs.lemmas.Bool.{and_parts, and_from}
use Rattle.std.proofs.lemmas.Bool.Decides.{nat_tests}
use Rattle.std.proofs.lemmas.Str.Parse.{IsDigitsTest, IsNumeralModel, numerals_by_value, digits_value_short, parse_gives}
use Rattle.mdb_datum.specs.Bytes.{Bytes}
use Rattle.client_script.specs.Parts.{is_digit, is_limit}

all_digits : IsDigitsTest (λ ds. list_all is_digit ds ≡ true)
all_digits = record {
  empty = refl;
  parts = λ c cs h. let p = and_parts (is_digit c) (list_all is_digit cs) h in (grind (arith, nat_tests, p), p.1);
  more = λ c cs h rest. and_from (is_digit c) (list_all is_digit cs) (grind (arith, nat_tests, h)) rest;
}

own : IsNumeralModel (λ ds. list_all is_digit ds ≡ true) (digits_value 10)
own = numerals_by_value (λ ds. list_all is_digit ds ≡ true) all_digits

pub limit_parsed : {E : Type 0} (word : Bytes) (r : Result ℕ E) → ParsesUnsigned 32 10 word r → is_limit word ≡ true → r ≡ Ok (digits_value 10 word)
limit_parsed word r parsed limit =
    let p = and_parts (nat_lt 0 (length word) && nat_le (length word) 9) (list_all is_digit word) limit in
    let q = and_parts (nat_lt 0 (length word)) (nat_le (length word) 9) p.0 in
    let some : 0 < length word = grind (arith, nat_tests, q) in
    let few : length word ≤ 9 = grind (arith, nat_tests, q) in
    let small : digits_value 10 word < 10 ^ 9 = digits_value_short own word 9 p.1 few in
    parse_gives own 32 word r parsed p.1 some (omega (arith, small))
