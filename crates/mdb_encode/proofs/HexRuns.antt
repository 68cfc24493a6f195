-- Reading hexadecimal digits one by one.
use Rattle.std.proofs.Common.{◌≡◌, ◌++◌, ◌==◌, ℕ, ◌+◌, ◌*◌, ◌<◌, [], ◌∷◌, length, take, set, Bool, true, false, Option, Some, None, option_map, refl, sym, ap, ◌∙◌, append_assoc, if◌then◌else◌, ◌&&◌}
use Rattle.std.proofs.lemmas.List.{take_more_set}
use Rattle.uuid.specs.Text.{hyphen, is_hex_digit, value_of, hex_digit_value}
use Rattle.mdb_encode.specs.Bytes.{Bytes}
use Rattle.mdb_encode.specs.Arguments.{hex_bytes}
use Rattle.mdb_encode.specs.inner.UuidStart.{digits_in, hex_from, hex_after}

both : (a b : Bool) (o : Option Bytes)
    → (if a && b then o else None) ≡ (if a then (if b then o else None) else None)
both true b o = refl
both false b o = refl

neither : (a : Bool) → ◌≡◌ {A = Option Bytes} None (if a then None else None)
neither true = refl
neither false = refl

-- the first digit of a byte
hex_first : (d : ℕ) (ds : Bytes)
    → hex_bytes (d ∷ ds) ≡ (if is_hex_digit d then hex_from (Some (value_of d)) ds else None)
hex_first d [] = neither (is_hex_digit d)
hex_first d (e ∷ ds) = both (is_hex_digit d) (is_hex_digit e) _

-- a character that is no hyphen stays
digits_in_more : (c : ℕ) (rest : Bytes) → (c == hyphen) ≡ false
    → digits_in (c ∷ rest) ≡ c ∷ digits_in rest
digits_in_more c rest ne = rw ne refl

is_digit : (b : Bool) (value digit : ℕ) → Some digit ≡ (if b then Some value else None)
    → (b ≡ true) × (digit ≡ value)
is_digit true value digit e = (refl, cc)
is_digit false value digit e = cc

-- the first digit of a byte is kept
pub high_digit : (bytes : Bytes) (len c digit : ℕ) (rest : Bytes) → (c == hyphen) ≡ false
    → Some digit ≡ hex_digit_value c
    → hex_after (record { bytes = bytes; len = len; high = None }) (digits_in (c ∷ rest))
    ≡ hex_after (record { bytes = bytes; len = len; high = Some digit }) (digits_in rest)
high_digit bytes len c digit rest ne read =
    let h = is_digit (is_hex_digit c) (value_of c) digit read in
    let is_hex : is_hex_digit c ≡ true = h.0 in
    let value : digit ≡ value_of c = h.1 in
    let chosen : hex_bytes (c ∷ digits_in rest) ≡ hex_from (Some digit) (digits_in rest) =
    hex_first c (digits_in rest)
    ∙ ap (λ b. if b then hex_from (Some (value_of c)) (digits_in rest) else None) is_hex
    ∙ ap (λ v. hex_from (Some v) (digits_in rest)) (sym value) in
    ap (λ o. option_map (λ more. take len bytes ++ more) o) (ap hex_bytes (digits_in_more c rest ne) ∙ chosen)

moved_in : (front : Bytes) (x : ℕ) (o : Option Bytes)
    → option_map (λ more. front ++ more) (option_map (λ bytes. x ∷ bytes) o) ≡ option_map (λ more. (front ++ x ∷ []) ++ more) o
moved_in front x None = refl
moved_in front x (Some more) = ap Some (sym (append_assoc front (x ∷ []) more))

-- the second digit ends the byte
pub low_digit : (bytes : Bytes) (len c high digit : ℕ) (rest : Bytes) → len < length bytes
    → (c == hyphen) ≡ false → Some digit ≡ hex_digit_value c
    → hex_after (record { bytes = bytes; len = len; high = Some high }) (digits_in (c ∷ rest))
    ≡ hex_after (record { bytes = set bytes len (16 * high + digit); len = len + 1; high = None })
    (digits_in rest)
low_digit bytes len c high digit rest room ne read =
    let h = is_digit (is_hex_digit c) (value_of c) digit read in
    let is_hex : is_hex_digit c ≡ true = h.0 in
    let value : digit ≡ value_of c = h.1 in
    let with_first = λ (first : ℕ).
    option_map (λ bytes'. first ∷ bytes') (hex_bytes (digits_in rest)) in
    let chosen : hex_from (Some high) (c ∷ digits_in rest) ≡ with_first (16 * high + digit) =
    ap (λ b. if b then with_first (16 * high + value_of c) else None) is_hex
    ∙ ap (λ v. with_first (16 * high + v)) (sym value) in
    ap (λ o. option_map (λ more. take len bytes ++ more) o)
    (ap (hex_from (Some high)) (digits_in_more c rest ne) ∙ chosen)
    ∙ moved_in (take len bytes) (16 * high + digit) (hex_bytes (digits_in rest))
    ∙ ap (λ front. option_map (λ more. front ++ more) (hex_bytes (digits_in rest)))
    (sym (take_more_set bytes len (16 * high + digit) room))
