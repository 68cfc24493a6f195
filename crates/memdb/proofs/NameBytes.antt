-- The bytes of names, and of decimals: none of them is escaped in a text.
use Rattle.std.proofs.Common.{arith, ◌≡◌, ◌≢◌, refl, ap₂, ◌∙◌, ℕ, suc, ◌<◌, ◌≤◌, ◌^◌, ◌%◌, [], ◌∷◌, ◌++◌, length, get_or, Bool, true, decimal}
use Rattle.std.specs.Prelude.{codes}
use Rattle.std.specs.List.{list_all}
use Rattle.std.proofs.lemmas.Bool.{and_from, and_parts}
use Rattle.std.proofs.lemmas.Bool.Decides.{nat_tests}
use Rattle.std.proofs.lemmas.Fmt.{decimal_is_IsNumeral}
use Rattle.std.proofs.lemmas.List.Concat.{flat_map-cons}
use Rattle.std.proofs.lemmas.List.Folds.{list_all-append}
use Rattle.std.proofs.lemmas.Str.Parse.{digit_at}
use Rattle.json.specs.Print.{escape_byte, escape}
use Rattle.mdb_datum.specs.Bytes.{Bytes}
use Rattle.mdb_schema.specs.Names.{is_name_byte}
use Rattle.memdb.specs.Made.{item_of}

-- ---- they are escaped to themselves

-- only quotes, backslashes and what is below a blank are escaped
escaped_alone : (b : ℕ) → 32 ≤ b → b ≢ 34 → b ≢ 92 → escape_byte b ≡ b ∷ []
unfolding escape_byte
escaped_alone b shown no_quote no_slash = grind (arith, nat_tests)

-- a byte of a name is none of these
name_byte_bounds : (b : ℕ) → is_name_byte b ≡ true → (32 ≤ b) × (b < 127) × (b ≢ 34) × (b ≢ 92)
name_byte_bounds b h = grind (arith, nat_tests)

-- so a name stands in a text as it is
pub escape-name : (s : Bytes) → list_all is_name_byte s ≡ true → escape s ≡ s
escape-name [] h = refl
escape-name (b ∷ bs) h =
    let p = and_parts (is_name_byte b) (list_all is_name_byte bs) h in
    let w = name_byte_bounds b p.0 in
    flat_map-cons escape_byte b bs ∙ ap₂ (λ x y. x ++ y) (escaped_alone b w.0 w.2 w.3) (escape-name bs p.1)

-- ---- decimals, and the names of made rows

-- digits are bytes of names
digits_are_names : (ds : Bytes) → ((i : ℕ) → i < length ds → (48 ≤ get_or ds i 0) × (get_or ds i 0 ≤ 57)) → list_all is_name_byte ds ≡ true
digits_are_names [] h = refl
digits_are_names (d ∷ ds) h =
    let first = h 0 (omega arith) in
    and_from (is_name_byte d) (list_all is_name_byte ds) (digit_is_name d first.0 first.1) (digits_are_names ds (λ i l. h (suc i) (omega arith)))
  where
    digit_is_name : (d : ℕ) → 48 ≤ d → d ≤ 57 → is_name_byte d ≡ true
    digit_is_name d low high = grind (arith, nat_tests)

-- and so are decimals
pub decimal_is_name : (n : ℕ) → n < 2 ^ 64 → list_all is_name_byte (decimal n) ≡ true
decimal_is_name n h = digits_are_names (decimal n) (λ i l. digit_at (decimal n) i (decimal_is_IsNumeral n h).0.1 l)

-- what holds of the bytes of two parts holds of both together
pub all_append : (p : ℕ → Bool) (xs ys : Bytes) → list_all p xs ≡ true → list_all p ys ≡ true → list_all p (xs ++ ys) ≡ true
all_append p xs ys h k = list_all-append p xs ys ∙ and_from (list_all p xs) (list_all p ys) h k

-- the name of a made row
pub item_named : (client v : ℕ) → client < 2 ^ 64 → list_all is_name_byte (item_of client v).name ≡ true
item_named client v h =
    all_append is_name_byte (decimal client) (codes "-" ++ decimal (v % 100)) (decimal_is_name client h) (decimal_is_name (v % 100) (omega arith))
