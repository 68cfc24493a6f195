-- Sums over lists, and over the rows of a table after rows were put: of each name the last row
-- counts, and of the rows before those whose name isn't put.
use Rattle.std.proofs.Common.{◌≡◌, ◌∙◌, ◌+◌, ◌||◌, ℕ, List, [], ◌∷◌, length, Bool, true, false, cond, if◌then◌else◌, Contains, Ordering, Less, Equal, Greater, arith, refl, sym, ap, inl, inr}
use Rattle.std.specs.Prelude.{⊤}
use Rattle.std.specs.Ordering.{match_ordering}
use Rattle.std.specs.Str.{bytes_eq}
use Rattle.std.proofs.lemmas.Bool.{cond-true, cond-false}
use Rattle.std.proofs.lemmas.Cmp.{nat_list_cmp_total}
use Rattle.std.proofs.lemmas.List.{append_cancel_right}
use Rattle.mdb_datum.specs.Row.{Fields}
use Rattle.mdb_encode.specs.Bytes.{Bytes, byte_order}
use Rattle.mdb_encode.specs.Keys.{ended}
use Rattle.mdb_schema.specs.Schema.{TableSchema}
use Rattle.mdb_schema.specs.State.{id_key, with_row}
use Rattle.mdb_schema.proofs.Membership.{Contains-first, Contains-later, Contains-cons_cases, same_key, bytes_eq-itself}
use Rattle.mdb_schema.proofs.RowsById.{AreRising, rising-first, rising-rest, first_apart, apart_from_less, apart_from_greater}
use Rattle.mdb_schema.proofs.RowsWith.{rising-with_row}
use Rattle.memdb.specs.Made.{Item, is_named, last_items}
use Rattle.memdb.specs.inner.MadeInputs.{row_of, age_in, ages_in}
use Rattle.memdb.proofs.MadeItem.{IsItem, item_table}
use Rattle.memdb.proofs.MadeStep.{id_key-item}
use Rattle.mdb_datum.proofs.ByteOrder.{same_from_byte_order}
use Rattle.mdb_schema.proofs.FreeKeys.{same_answer}

-- ---- sums

-- the sum of what each weighs
abbrev pub total : {A : Type 0} → (A → ℕ) → List A → ℕ
total w [] = 0
total w (x ∷ xs) = w x + total w xs

pub total-same : {A : Type 0} (v w : A → ℕ) (xs : List A) → ((x : A) → v x ≡ w x) → total v xs ≡ total w xs
total-same v w [] same = refl
total-same v w (x ∷ xs) same = λ i. same x i + total-same v w xs same i

pub total-length : {A : Type 0} (xs : List A) → length xs ≡ total (λ (x : A). 1) xs
total-length [] = refl
total-length (x ∷ xs) = let later = total-length xs in omega arith

pub total-ages : (rows : List Fields) → ages_in rows ≡ total age_in rows
total-ages [] = refl
total-ages (r ∷ rows) = ap (λ (n : ℕ). age_in r + n) (total-ages rows)

-- ---- a row is put

module _ (t : TableSchema) (w : Fields → ℕ) (row : Fields) where
  -- what a row weighs beside the one that is put
  abbrev pub weight_beside : Fields → ℕ
  weight_beside r = if bytes_eq (id_key t row) (id_key t r) then 0 else w r

  total-apart : (rows : List Fields)
      → ((r : Fields) → Contains rows r → bytes_eq (id_key t row) (id_key t r) ≡ false)
      → total weight_beside rows ≡ total w rows
  total-apart [] apart = refl
  total-apart (r ∷ rows) apart =
      let first = cond-false (bytes_eq (id_key t row) (id_key t r)) 0 (w r) (apart r (Contains-first r rows)) in
      let later = total-apart rows (λ x h. apart x (Contains-later r rows x h)) in
      λ i. first i + later i

  pub total-with_row : (rows : List Fields) → AreRising t rows
      → total w (with_row t row rows) ≡ w row + total weight_beside rows
  total-with_row [] rising = refl
  total-with_row (r ∷ rows) rising =
      of (byte_order (id_key t row) (id_key t r)) refl (total-with_row rows (rising-rest t r rows rising))
    where
      above : byte_order (id_key t row) (id_key t r) ≡ Less → (x : Fields) → Contains (r ∷ rows) x
          → bytes_eq (id_key t row) (id_key t x) ≡ false
      above e x h = elim (Contains-cons_cases r rows x h) [
        | inl same ↦ ap (λ (y : Fields). bytes_eq (id_key t row) (id_key t y)) (sym same)
            ∙ apart_from_less (id_key t row) (id_key t r) e
        | inr later ↦ apart_from_less (id_key t row) (id_key t x)
            (nat_list_cmp_total.trans (id_key t row) (id_key t r) (id_key t x) e (rising-first t r rows rising x later))
      ]

      beyond : byte_order (id_key t row) (id_key t r) ≡ Equal → (x : Fields) → Contains rows x
          → bytes_eq (id_key t row) (id_key t x) ≡ false
      beyond e x h =
          ap (λ (k : Bytes). bytes_eq k (id_key t x)) (same_from_byte_order (id_key t row) (id_key t r) e)
          ∙ first_apart t r rows rising x h

      of : (o : Ordering) → byte_order (id_key t row) (id_key t r) ≡ o
          → total w (with_row t row rows) ≡ w row + total weight_beside rows
          → total w (match_ordering o (row ∷ r ∷ rows) (row ∷ rows) (r ∷ with_row t row rows))
          ≡ w row + (weight_beside r + total weight_beside rows)
      of Less e later = ap (λ (n : ℕ). w row + n) (sym (total-apart (r ∷ rows) (above e)))
      of Equal e later =
          let none = cond-true (bytes_eq (id_key t row) (id_key t r)) 0 (w r)
          (ap (λ (k : Bytes). bytes_eq k (id_key t r)) (same_from_byte_order (id_key t row) (id_key t r) e)
          ∙ bytes_eq-itself (id_key t r)) in
          let rest = total-apart rows (beyond e) in
          omega (arith, none, rest)
      of Greater e later =
          let here = cond-false (bytes_eq (id_key t row) (id_key t r)) 0 (w r)
          (apart_from_greater (id_key t row) (id_key t r) e) in
          omega (arith, here, later)

-- ---- rows are put, one after the other

abbrev pub after_items : List Fields → List Item → List Fields
after_items rows [] = rows
after_items rows (x ∷ xs) = after_items (with_row item_table (row_of x) rows) xs

abbrev pub AreMade : List Item → Type 0
AreMade [] = ⊤
AreMade (x ∷ xs) = IsItem x × AreMade xs

-- one of the rows has this `id` key
abbrev pub is_keyed : Bytes → List Item → Bool
is_keyed k [] = false
is_keyed k (x ∷ xs) = bytes_eq (id_key item_table (row_of x)) k || is_keyed k xs

-- keys tell names
same_names : (x y : Item) → IsItem x → IsItem y
    → bytes_eq (id_key item_table (row_of x)) (id_key item_table (row_of y)) ≡ bytes_eq x.name y.name
same_names x y made is =
    (λ i. bytes_eq (id_key-item x made i) (id_key-item y is i))
    ∙ same_answer (bytes_eq (ended x.name) (ended y.name)) (bytes_eq x.name y.name)
    (λ e. equal x.name y.name (append_cancel_right x.name y.name (0 ∷ []) (same_key (ended x.name) (ended y.name) e)))
    (λ e. equal (ended x.name) (ended y.name) (ap ended (same_key x.name y.name e)))
  where
    equal : (a b : Bytes) → a ≡ b → bytes_eq a b ≡ true
    equal a b e = ap (bytes_eq a) (sym e) ∙ bytes_eq-itself a

keyed-named : (x : Item) (xs : List Item) → IsItem x → AreMade xs
    → is_keyed (id_key item_table (row_of x)) xs ≡ is_named x.name xs
keyed-named x [] is made = refl
keyed-named x (y ∷ xs) is made = λ i. same_names y x made.0 is i || keyed-named x xs is made.1 i

-- what the first of some weighs: nothing where its name comes again
abbrev pub weight_once : {A : Type 0} → (A → ℕ) → Bool → A → ℕ
weight_once w again x = if again then 0 else w x

pub total-last_items : (w : Item → ℕ) (x : Item) (xs : List Item)
    → total w (last_items (x ∷ xs)) ≡ weight_once w (is_named x.name xs) x + total w (last_items xs)
total-last_items w x xs = of (is_named x.name xs)
  where
    of : (b : Bool) → total w (if b then last_items xs else x ∷ last_items xs)
        ≡ weight_once w b x + total w (last_items xs)
    of true = omega arith
    of false = refl

module _ (w : Fields → ℕ) where
  -- what a row weighs that has none of the keys
  abbrev weight_left : List Item → Fields → ℕ
  weight_left xs r = weight_once w (is_keyed (id_key item_table r) xs) r

  either : (a b : Bool) (n : ℕ) → cond a 0 (cond b 0 n) ≡ cond (a || b) 0 n
  either true b n = refl
  either false b n = refl

  totals_left : (xs : List Item) (rows : List Fields) → AreMade xs → AreRising item_table rows
      → total w (after_items rows xs) ≡ total (λ x. w (row_of x)) (last_items xs) + total (weight_left xs) rows
  totals_left [] rows made rising = omega arith
  totals_left (x ∷ xs) rows made rising =
      let row = row_of x in
      let own = λ (y : Item). w (row_of y) in
      let rest = totals_left xs (with_row item_table row rows) made.1 (rising-with_row item_table row rows rising) in
      let put = total-with_row item_table (weight_left xs) row rows rising in
      let beside = total-same (weight_beside item_table (weight_left xs) row) (weight_left (x ∷ xs)) rows
      (λ r. either (bytes_eq (id_key item_table row) (id_key item_table r))
      (is_keyed (id_key item_table r) xs) (w r)) in
      let first = total-last_items own x xs in
      let same = ap (λ (b : Bool). weight_once w b row) (keyed-named x xs made.0 made.1) in
      omega (arith, rest, put, beside, first, same)

  -- of each name the last row counts
  pub totals_of_items : (xs : List Item) → AreMade xs → AreRising item_table []
      → total w (after_items [] xs) ≡ total (λ x. w (row_of x)) (last_items xs)
  totals_of_items xs made rising = let e = totals_left xs [] made rising in omega (arith, e)
