-- Bytes that a text doesn't have: numbers and documents have no line feed, and numbers no blank.
use Rattle.std.proofs.Common.{arith, ◌≡◌, refl, ap, subst, sym, ◌∙◌, ℕ, zero, suc, ◌+◌, ◌/◌, ◌%◌, ◌<◌, ◌≤◌, ◌⊎◌, inl, inr, [], ◌∷◌, ◌++◌, Bool, true, false, not, ◌&&◌, ◌==◌, decimal, pos, negsuc, ℤ, append_assoc}
use Rattle.std.specs.Prelude.{if◌then◌else◌, nat_lt}
use Rattle.std.specs.Fmt.{digit_glyph, digits, digits_onto, signed_decimal}
use Rattle.std.specs.List.{list_all}
use Rattle.std.proofs.lemmas.Bool.{and_from, and_parts, cases_lt, cases_eq}
use Rattle.std.proofs.lemmas.Bool.Decides.{nat_tests}
use Rattle.std.proofs.lemmas.List.Folds.{list_all-append}
use Rattle.json.specs.Print.{escape, escape_byte, quoted}
use Rattle.json.proofs.Printed.Strings.{escape_byte_plain}
use Rattle.mdb_datum.specs.Bytes.{Bytes}
use Rattle.mdb_datum.specs.Doc.{Doc, nil, flag, whole, text, list, object, DocList, no_docs, doc, FieldList, no_fields, field, field_list}
use Rattle.mdb_datum.specs.Row.{Fields}
use Rattle.mdb_datum.specs.Written.{comma, compact, docs_text, fields_text, row_text}

-- ---- none of a byte

-- it isn't this byte
abbrev pub is_other : ℕ → ℕ → Bool
is_other c b = not (b == c)

-- none of them is this byte
abbrev pub lacks : ℕ → Bytes → Bool
lacks c bs = list_all (is_other c) bs

-- no line feed
abbrev pub is_flat : Bytes → Bool
is_flat bs = lacks 10 bs

pub lacks_both : (c : ℕ) (a b : Bytes) → lacks c a ≡ true → lacks c b ≡ true → lacks c (a ++ b) ≡ true
lacks_both c a b e f = list_all-append (is_other c) a b ∙ and_from (lacks c a) (lacks c b) e f

pub lacks_cons : (c x : ℕ) (a : Bytes) → is_other c x ≡ true → lacks c a ≡ true → lacks c (x ∷ a) ≡ true
lacks_cons c x a e f = and_from (is_other c x) (lacks c a) e f

pub other_is : (c b : ℕ) → is_other c b ≡ true → b ≡ c → ⊥
other_is c b e same = grind (arith, nat_tests, e)

-- two texts that this byte ends, with what follows, are cut at one place
pub byte_cut : (c : ℕ) (a b x y : Bytes) → lacks c a ≡ true → lacks c b ≡ true → a ++ c ∷ x ≡ b ++ c ∷ y → (a ≡ b) × (x ≡ y)
byte_cut c [] [] x y in_a in_b same = (refl, cc)
byte_cut c [] (e ∷ b) x y in_a in_b same = absurd (other_is c e (and_parts (is_other c e) (lacks c b) in_b).0 (cc))
byte_cut c (d ∷ a) [] x y in_a in_b same = absurd (other_is c d (and_parts (is_other c d) (lacks c a) in_a).0 (cc))
byte_cut c (d ∷ a) (e ∷ b) x y in_a in_b same =
    let first : d ≡ e = cc in
    let rest : a ++ c ∷ x ≡ b ++ c ∷ y = cc in
    let cut : (a ≡ b) × (x ≡ y) = byte_cut c a b x y (and_parts (is_other c d) (lacks c a) in_a).1 (and_parts (is_other c e) (lacks c b) in_b).1 rest in
    (ap (λ (n : ℕ). n ∷ a) first ∙ ap (λ (l : Bytes). e ∷ l) cut.0, cut.1)

-- ---- numbers

glyph_large : (d : ℕ) → 48 ≤ digit_glyph false d
glyph_large d = by (nat_lt d 10)
  where
    by : (t : Bool) → 48 ≤ (if t then 48 + d else (if false then 55 + d else 87 + d))
    by true = omega arith
    by false = omega arith

large_other : (c b : ℕ) → c < 48 → 48 ≤ b → is_other c b ≡ true
large_other c b lt le = grind (arith, nat_tests)

onto_lacks : (c k n : ℕ) (acc : Bytes) → c < 48 → lacks c acc ≡ true → lacks c (digits_onto k 10 false n acc) ≡ true
onto_lacks c zero n acc lt e = e
onto_lacks c (suc k) n acc lt e =
    let one : lacks c (digit_glyph false (n % 10) ∷ acc) ≡ true = lacks_cons c (digit_glyph false (n % 10)) acc (large_other c (digit_glyph false (n % 10)) lt (glyph_large (n % 10))) e in
    by (n / 10 == 0) one (onto_lacks c k (n / 10) (digit_glyph false (n % 10) ∷ acc) lt one)
  where
    by : (t : Bool) → lacks c (digit_glyph false (n % 10) ∷ acc) ≡ true → lacks c (digits_onto k 10 false (n / 10) (digit_glyph false (n % 10) ∷ acc)) ≡ true → lacks c (if t then digit_glyph false (n % 10) ∷ acc else digits_onto k 10 false (n / 10) (digit_glyph false (n % 10) ∷ acc)) ≡ true
    by true one more = one
    by false one more = more

pub decimal_lacks : (c n : ℕ) → c < 48 → lacks c (decimal n) ≡ true
unfolding digits
decimal_lacks c n lt = onto_lacks c 64 n [] lt refl

pub decimal_flat : (n : ℕ) → is_flat (decimal n) ≡ true
decimal_flat n = decimal_lacks 10 n (omega arith)

-- the last digit, of however many
onto_ends : (k n : ℕ) (acc : Bytes) → (front : Bytes) × (digits_onto k 10 false n acc ≡ front ++ acc)
onto_ends zero n acc = ([], refl)
onto_ends (suc k) n acc = by (n / 10 == 0) (onto_ends k (n / 10) (digit_glyph false (n % 10) ∷ acc))
  where
    by : (t : Bool) → (front : Bytes) × (digits_onto k 10 false (n / 10) (digit_glyph false (n % 10) ∷ acc) ≡ front ++ digit_glyph false (n % 10) ∷ acc) → (front : Bytes) × ((if t then digit_glyph false (n % 10) ∷ acc else digits_onto k 10 false (n / 10) (digit_glyph false (n % 10) ∷ acc)) ≡ front ++ acc)
    by true rest = (digit_glyph false (n % 10) ∷ [], refl)
    by false rest = (rest.0 ++ digit_glyph false (n % 10) ∷ [], rest.1 ∙ sym (append_assoc rest.0 (digit_glyph false (n % 10) ∷ []) acc))

decimal_ends : (n : ℕ) → (front : Bytes) × (decimal n ≡ front ++ digit_glyph false (n % 10) ∷ [])
unfolding digits
decimal_ends n = by (n / 10 == 0) (onto_ends 63 (n / 10) (digit_glyph false (n % 10) ∷ []))
  where
    by : (t : Bool) → (front : Bytes) × (digits_onto 63 10 false (n / 10) (digit_glyph false (n % 10) ∷ []) ≡ front ++ digit_glyph false (n % 10) ∷ []) → (front : Bytes) × ((if t then digit_glyph false (n % 10) ∷ [] else digits_onto 63 10 false (n / 10) (digit_glyph false (n % 10) ∷ [])) ≡ front ++ digit_glyph false (n % 10) ∷ [])
    by true rest = ([], refl)
    by false rest = rest

last_byte : Bytes → ℕ
last_byte [] = 0
last_byte (b ∷ []) = b
last_byte (b ∷ c ∷ bs) = last_byte (c ∷ bs)

last_behind : (front : Bytes) (b : ℕ) → last_byte (front ++ b ∷ []) ≡ b
unfolding last_byte
last_behind [] b = refl
last_behind (x ∷ []) b = refl
last_behind (x ∷ y ∷ front) b = last_behind (y ∷ front) b

glyph_is : (d : ℕ) → d < 10 → digit_glyph false d ≡ 48 + d
glyph_is d lt = let is : nat_lt d 10 ≡ true = grind (arith, nat_tests, lt) in ap (λ (t : Bool). if t then 48 + d else (if false then 55 + d else 87 + d)) is

last_digit : (n : ℕ) → last_byte (decimal n) ≡ 48 + n % 10
last_digit n = let e = decimal_ends n in ap last_byte e.1 ∙ last_behind e.0 (digit_glyph false (n % 10)) ∙ glyph_is (n % 10) (omega arith)

-- no number is written as the next one
pub decimal_next : (n : ℕ) → decimal n ≡ decimal (n + 1) → ⊥
decimal_next n e =
    let same : 48 + n % 10 ≡ 48 + (n + 1) % 10 = sym (last_digit n) ∙ ap last_byte e ∙ last_digit (n + 1) in
    omega (arith, same)

-- ---- documents

flat_below : ℕ → Bool
flat_below zero = true
flat_below (suc n) = is_flat (escape_byte n) && flat_below n

below_flat : (n : ℕ) → flat_below n ≡ true → (b : ℕ) → b < n → is_flat (escape_byte b) ≡ true
unfolding flat_below
below_flat zero all b lt = absurd (omega arith)
below_flat (suc n) all b lt =
    let parts : (is_flat (escape_byte n) ≡ true) × (flat_below n ≡ true) = and_parts (is_flat (escape_byte n)) (flat_below n) all in
    elim (cases_eq b n) [
      | inl same ↦ subst (λ (x : ℕ). is_flat (escape_byte x) ≡ true) (sym same) parts.0
      | inr other ↦ below_flat n parts.1 b (omega arith)
    ]

first_flat : flat_below 93 ≡ true
unfolding flat_below escape_byte
first_flat = refl

escape_flat : (b : ℕ) → is_flat (escape_byte b) ≡ true
escape_flat b = of (cases_lt b 93)
  where
    of : (b < 93) ⊎ (93 ≤ b) → is_flat (escape_byte b) ≡ true
    of (inl low) = below_flat 93 first_flat b low
    of (inr high) =
        let plain : escape_byte b ≡ b ∷ [] = escape_byte_plain b (λ e. omega arith) (λ e. omega arith) (omega arith) in
        rw plain (lacks_cons 10 b [] (large_other 10 b (omega arith) (omega arith)) refl)

quoted_flat : (s : Bytes) → is_flat (quoted s) ≡ true
quoted_flat s = lacks_cons 10 34 (escape s ++ 34 ∷ []) refl (lacks_both 10 (escape s) (34 ∷ []) (all s) refl)
  where
    all : (s : Bytes) → is_flat (escape s) ≡ true
    all [] = refl
    all (b ∷ bs) = lacks_both 10 (escape_byte b) (escape bs) (escape_flat b) (all bs)

comma_flat : (later : Bool) → is_flat (comma later) ≡ true
comma_flat true = refl
comma_flat false = refl

signed_flat : (z : ℤ) → is_flat (signed_decimal z) ≡ true
signed_flat (pos n) = decimal_flat n
signed_flat (negsuc n) = lacks_cons 10 45 (decimal (suc n)) refl (decimal_flat (suc n))

mutual
  compact_flat : (d : Doc) → is_flat (compact d) ≡ true
  compact_flat nil = refl
  compact_flat (flag true) = refl
  compact_flat (flag false) = refl
  compact_flat (whole z) = signed_flat z
  compact_flat (text s) = quoted_flat s
  compact_flat (list ds) = lacks_cons 10 91 (docs_text false ds) refl (docs_flat false ds)
  compact_flat (object fs) = lacks_cons 10 123 (fields_text false fs) refl (fields_flat false fs)

  docs_flat : (later : Bool) (ds : DocList) → is_flat (docs_text later ds) ≡ true
  docs_flat later no_docs = refl
  docs_flat later (doc d ds) = lacks_both 10 (comma later) (compact d ++ docs_text true ds) (comma_flat later) (lacks_both 10 (compact d) (docs_text true ds) (compact_flat d) (docs_flat true ds))

  fields_flat : (later : Bool) (fs : FieldList) → is_flat (fields_text later fs) ≡ true
  fields_flat later no_fields = refl
  fields_flat later (field name d fs) = lacks_both 10 (comma later) (quoted name ++ 58 ∷ (compact d ++ fields_text true fs)) (comma_flat later) (lacks_both 10 (quoted name) (58 ∷ (compact d ++ fields_text true fs)) (quoted_flat name) (lacks_cons 10 58 (compact d ++ fields_text true fs) refl (lacks_both 10 (compact d) (fields_text true fs) (compact_flat d) (fields_flat true fs))))

-- the text of a row has no line feed
pub row_flat : (r : Fields) → is_flat (row_text r) ≡ true
row_flat r = compact_flat (object (field_list r))
