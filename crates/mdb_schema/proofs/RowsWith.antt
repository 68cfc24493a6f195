-- The rows of a table with a row put in: what is found, what stands there, and that the keys rise.
use Rattle.std.proofs.Common.{◌≡◌, ◌⊎◌, ◌∙◌, List, [], ◌∷◌, Bool, true, false, cond, if◌then◌else◌, Option, Some, Contains, Ordering, Less, Equal, Greater, refl, sym, ap, subst, inl, inr}
use Rattle.std.specs.Ordering.{match_ordering}
use Rattle.std.specs.Str.{bytes_eq}
use Rattle.std.proofs.lemmas.Bool.{cond-true, cond-false}
use Rattle.std.proofs.lemmas.Cmp.{nat_list_cmp_total}
use Rattle.mdb_datum.specs.Row.{Fields}
use Rattle.mdb_encode.specs.Bytes.{Bytes, byte_order}
use Rattle.mdb_schema.specs.Schema.{TableSchema}
use Rattle.mdb_schema.specs.State.{id_key, row_at, with_row}
use Rattle.mdb_schema.proofs.Membership.{Contains-nil, Contains-first, Contains-later, Contains-cons_cases, same_key, bytes_eq-itself, bytes_eq-comm, no_tie}
use Rattle.mdb_schema.proofs.RowsById.{AreRising, rising-cons, rising-first, rising-rest, row_at-some, row_at-row, one_row, apart_from_greater}
use Rattle.mdb_datum.proofs.ByteOrder.{same_from_byte_order, turned}

-- a test made again under itself
pub asked_twice : {A : Type 0} (b : Bool) (x y z : A) → cond b x z ≡ cond b x (cond b y z)
asked_twice true x y z = refl
asked_twice false x y z = refl

-- tests that are not both passed may change places
pub in_turn : {A : Type 0} (b c : Bool) (x y z : A) → (b ≡ true → c ≡ true → ⊥) → cond b x (cond c y z) ≡ cond c y (cond b x z)
in_turn true true x y z apart = absurd (apart refl refl)
in_turn true false x y z apart = refl
in_turn false true x y z apart = refl
in_turn false false x y z apart = refl

pub not_both : (a b id : Bytes) → bytes_eq a b ≡ false → bytes_eq a id ≡ true → bytes_eq b id ≡ true → ⊥
not_both a b id apart e f = no_tie a b apart (same_key a id e ∙ sym (same_key b id f))

pub row_at-with_row : (t : TableSchema) (id : Bytes) (row : Fields) (rows : List Fields)
    → row_at t id (with_row t row rows) ≡ (if bytes_eq (id_key t row) id then Some row else row_at t id rows)
row_at-with_row t id row [] = refl
row_at-with_row t id row (r ∷ rows) = of (byte_order (id_key t row) (id_key t r)) refl (row_at-with_row t id row rows)
  where
    of : (o : Ordering) → byte_order (id_key t row) (id_key t r) ≡ o → row_at t id (with_row t row rows) ≡ (if bytes_eq (id_key t row) id then Some row else row_at t id rows)
        → row_at t id (match_ordering o (row ∷ r ∷ rows) (row ∷ rows) (r ∷ with_row t row rows)) ≡ (if bytes_eq (id_key t row) id then Some row else row_at t id (r ∷ rows))
    of Less e later = refl
    of Equal e later =
        asked_twice (bytes_eq (id_key t row) id) (Some row) (Some r) (row_at t id rows)
        ∙ ap (λ (k : Bytes). cond (bytes_eq (id_key t row) id) (Some row) (cond (bytes_eq k id) (Some r) (row_at t id rows))) (same_from_byte_order (id_key t row) (id_key t r) e)
    of Greater e later =
        ap (λ (o : Option Fields). cond (bytes_eq (id_key t r) id) (Some r) o) later
        ∙ in_turn (bytes_eq (id_key t r) id) (bytes_eq (id_key t row) id) (Some r) (Some row) (row_at t id rows)
        (not_both (id_key t r) (id_key t row) id (bytes_eq-comm (id_key t row) (id_key t r) false (apart_from_greater (id_key t row) (id_key t r) e)))

-- the row itself, or one that stood there
pub with_row-old : (t : TableSchema) (row : Fields) (rows : List Fields) (x : Fields) → Contains (with_row t row rows) x → (row ≡ x) ⊎ Contains rows x
with_row-old t row [] x h = Contains-cons_cases row [] x h
with_row-old t row (r ∷ rows) x h = of (byte_order (id_key t row) (id_key t r)) h (λ within. with_row-old t row rows x within)
  where
    of : (o : Ordering) → Contains (match_ordering o (row ∷ r ∷ rows) (row ∷ rows) (r ∷ with_row t row rows)) x → (Contains (with_row t row rows) x → (row ≡ x) ⊎ Contains rows x)
        → (row ≡ x) ⊎ Contains (r ∷ rows) x
    of Less h later = Contains-cons_cases row (r ∷ rows) x h
    of Equal h later = elim (Contains-cons_cases row rows x h) [ inl same ↦ inl same | inr within ↦ inr (Contains-later r rows x within) ]
    of Greater h later = elim (Contains-cons_cases r (with_row t row rows) x h) [
      | inl same ↦ inr (subst (λ (y : Fields). Contains (r ∷ rows) y) same (Contains-first r rows))
      | inr within ↦ elim (later within) [ inl is ↦ inl is | inr old ↦ inr (Contains-later r rows x old) ]
    ]

pub rising-with_row : (t : TableSchema) (row : Fields) (rows : List Fields) → AreRising t rows → AreRising t (with_row t row rows)
rising-with_row t row [] rising = rising-cons t row [] (λ x h. absurd (Contains-nil x h)) rising
rising-with_row t row (r ∷ rows) rising = of (byte_order (id_key t row) (id_key t r)) refl (rising-with_row t row rows (rising-rest t r rows rising))
  where
    of : (o : Ordering) → byte_order (id_key t row) (id_key t r) ≡ o → AreRising t (with_row t row rows)
        → AreRising t (match_ordering o (row ∷ r ∷ rows) (row ∷ rows) (r ∷ with_row t row rows))
    of Less e later = rising-cons t row (r ∷ rows)
        (λ x h. elim (Contains-cons_cases r rows x h) [
          | inl same ↦ subst (λ (y : Fields). byte_order (id_key t row) (id_key t y) ≡ Less) same e
          | inr within ↦ nat_list_cmp_total.trans (id_key t row) (id_key t r) (id_key t x) e (rising-first t r rows rising x within)
        ]) rising
    of Equal e later = rising-cons t row rows
        (λ x h. subst (λ (k : Bytes). byte_order k (id_key t x) ≡ Less) (sym (same_from_byte_order (id_key t row) (id_key t r) e)) (rising-first t r rows rising x h))
        (rising-rest t r rows rising)
    of Greater e later = rising-cons t r (with_row t row rows)
        (λ x h. elim (with_row-old t row rows x h) [
          | inl same ↦ subst (λ (y : Fields). byte_order (id_key t r) (id_key t y) ≡ Less) same (turned (id_key t row) (id_key t r) Greater e)
          | inr old ↦ rising-first t r rows rising x old
        ]) later

pub row_at-with_row_same : (t : TableSchema) (row : Fields) (rows : List Fields) → row_at t (id_key t row) (with_row t row rows) ≡ Some row
row_at-with_row_same t row rows =
    row_at-with_row t (id_key t row) row rows
    ∙ cond-true (bytes_eq (id_key t row) (id_key t row)) (Some row) (row_at t (id_key t row) rows) (bytes_eq-itself (id_key t row))

pub row_at-with_row_other : (t : TableSchema) (id : Bytes) (row : Fields) (rows : List Fields) → bytes_eq (id_key t row) id ≡ false → row_at t id (with_row t row rows) ≡ row_at t id rows
row_at-with_row_other t id row rows apart =
    row_at-with_row t id row rows ∙ cond-false (bytes_eq (id_key t row) id) (Some row) (row_at t id rows) apart

pub Contains-with_row : (t : TableSchema) (row : Fields) (rows : List Fields) → Contains (with_row t row rows) row
Contains-with_row t row rows = (row_at-some t (id_key t row) (with_row t row rows) row (row_at-with_row_same t row rows)).0

-- a row of another `id` key stays
pub Contains-with_row_other : (t : TableSchema) (row : Fields) (rows : List Fields) (x : Fields) → AreRising t rows → Contains rows x → bytes_eq (id_key t row) (id_key t x) ≡ false
    → Contains (with_row t row rows) x
Contains-with_row_other t row rows x rising h apart =
    (row_at-some t (id_key t x) (with_row t row rows) x (row_at-with_row_other t (id_key t x) row rows apart ∙ row_at-row t rows x rising h)).0

-- the row itself, or one of another `id` key that stood there
pub with_row-cases : (t : TableSchema) (row : Fields) (rows : List Fields) (x : Fields) → AreRising t rows → Contains (with_row t row rows) x
    → (row ≡ x) ⊎ (Contains rows x × (bytes_eq (id_key t row) (id_key t x) ≡ false))
with_row-cases t row rows x rising h = of (bytes_eq (id_key t row) (id_key t x)) refl
  where
    of : (b : Bool) → bytes_eq (id_key t row) (id_key t x) ≡ b → (row ≡ x) ⊎ (Contains rows x × (bytes_eq (id_key t row) (id_key t x) ≡ false))
    of true e = inl (one_row t (with_row t row rows) row x (rising-with_row t row rows rising) (Contains-with_row t row rows) h (same_key (id_key t row) (id_key t x) e))
    of false e = elim (with_row-old t row rows x h) [
      | inl same ↦ inl same
      | inr old ↦ inr (old, e)
    ]
