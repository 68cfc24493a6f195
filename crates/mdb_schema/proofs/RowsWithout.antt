-- The rows of a table without the row of an `id` key: what is found, what stands there, and that
-- the keys rise.
use Rattle.std.proofs.Common.{◌≡◌, ◌∙◌, List, [], ◌∷◌, filter, Bool, true, false, not, cond, if◌then◌else◌, Option, Some, None, Contains, refl, sym, ap, subst, inl, inr}
use Rattle.std.specs.Str.{bytes_eq}
use Rattle.std.proofs.lemmas.Bool.{not-true}
use Rattle.mdb_datum.specs.Row.{Fields}
use Rattle.mdb_encode.specs.Bytes.{Bytes}
use Rattle.mdb_schema.specs.Schema.{TableSchema}
use Rattle.mdb_schema.specs.State.{id_key, row_at, without_row}
use Rattle.mdb_schema.proofs.Membership.{Contains-first, Contains-later, Contains-cons_cases, Contains-filter, Contains-from_filter, filter-all, same_key, bytes_eq-comm}
use Rattle.mdb_schema.proofs.RowsById.{AreRising, rising-cons, rising-first, rising-rest, first_apart, row_at-nothing}
use Rattle.mdb_schema.proofs.RowsWith.{in_turn, not_both}

-- the rows of other `id` keys
abbrev pub others : TableSchema → Bytes → List Fields → List Fields
others t id rows = filter (λ (r : Fields). not (bytes_eq (id_key t r) id)) rows

pub without_row-filter : (t : TableSchema) (id : Bytes) (rows : List Fields) → AreRising t rows → without_row t id rows ≡ others t id rows
without_row-filter t id [] rising = refl
without_row-filter t id (r ∷ rows) rising = of (bytes_eq (id_key t r) id) refl (without_row-filter t id rows (rising-rest t r rows rising))
  where
    of : (b : Bool) → bytes_eq (id_key t r) id ≡ b → without_row t id rows ≡ others t id rows
        → cond b rows (r ∷ without_row t id rows) ≡ cond (not b) (r ∷ others t id rows) (others t id rows)
    of true e later = sym (filter-all (λ (x : Fields). not (bytes_eq (id_key t x) id)) rows
        (λ x h. ap not (bytes_eq-comm id (id_key t x) false (subst (λ (k : Bytes). bytes_eq k (id_key t x) ≡ false) (same_key (id_key t r) id e) (first_apart t r rows rising x h)))))
    of false e later = ap (λ (l : List Fields). r ∷ l) later

pub without_row-old : (t : TableSchema) (id : Bytes) (rows : List Fields) (x : Fields) → Contains (without_row t id rows) x → Contains rows x
without_row-old t id [] x h = h
without_row-old t id (r ∷ rows) x h = of (bytes_eq (id_key t r) id) h (λ within. without_row-old t id rows x within)
  where
    of : (b : Bool) → Contains (cond b rows (r ∷ without_row t id rows)) x → (Contains (without_row t id rows) x → Contains rows x) → Contains (r ∷ rows) x
    of true h later = Contains-later r rows x h
    of false h later = elim (Contains-cons_cases r (without_row t id rows) x h) [
      | inl same ↦ subst (λ (y : Fields). Contains (r ∷ rows) y) same (Contains-first r rows)
      | inr within ↦ Contains-later r rows x (later within)
    ]

pub rising-without_row : (t : TableSchema) (id : Bytes) (rows : List Fields) → AreRising t rows → AreRising t (without_row t id rows)
rising-without_row t id [] rising = rising
rising-without_row t id (r ∷ rows) rising = of (bytes_eq (id_key t r) id) (rising-without_row t id rows (rising-rest t r rows rising))
  where
    of : (b : Bool) → AreRising t (without_row t id rows) → AreRising t (cond b rows (r ∷ without_row t id rows))
    of true later = rising-rest t r rows rising
    of false later = rising-cons t r (without_row t id rows) (λ x h. rising-first t r rows rising x (without_row-old t id rows x h)) later

-- what stands there are the rows of other `id` keys
pub without_row-cases : (t : TableSchema) (id : Bytes) (rows : List Fields) (x : Fields) → AreRising t rows → Contains (without_row t id rows) x
    → Contains rows x × (bytes_eq (id_key t x) id ≡ false)
without_row-cases t id rows x rising h =
    let w = Contains-from_filter (λ (r : Fields). not (bytes_eq (id_key t r) id)) rows x (subst (λ (l : List Fields). Contains l x) (without_row-filter t id rows rising) h) in
    (w.0, not-true (bytes_eq (id_key t x) id) w.1)

pub Contains-without_row : (t : TableSchema) (id : Bytes) (rows : List Fields) (x : Fields) → AreRising t rows → Contains rows x → bytes_eq (id_key t x) id ≡ false
    → Contains (without_row t id rows) x
Contains-without_row t id rows x rising h apart =
    subst (λ (l : List Fields). Contains l x) (sym (without_row-filter t id rows rising))
    (Contains-filter (λ (r : Fields). not (bytes_eq (id_key t r) id)) rows x h (ap not apart))

-- where a test tells of none, the look-up may ask it first
none_or : (b : Bool) (o : Option Fields) → (b ≡ true → o ≡ None) → o ≡ cond b None o
none_or true o none = none refl
none_or false o none = refl

pub row_at-without_row : (t : TableSchema) (q id : Bytes) (rows : List Fields) → AreRising t rows → row_at t q (without_row t id rows) ≡ (if bytes_eq id q then None else row_at t q rows)
row_at-without_row t q id [] rising = none_or (bytes_eq id q) None (λ e. refl)
row_at-without_row t q id (r ∷ rows) rising = of (bytes_eq (id_key t r) id) refl (row_at-without_row t q id rows (rising-rest t r rows rising))
  where
    -- none of the later rows has the first one's key
    none_later : bytes_eq (id_key t r) q ≡ true → row_at t q rows ≡ None
    none_later e = row_at-nothing t q rows
        (λ x h. bytes_eq-comm q (id_key t x) false (subst (λ (k : Bytes). bytes_eq k (id_key t x) ≡ false) (same_key (id_key t r) q e) (first_apart t r rows rising x h)))

    skipped : (b c : Bool) → b ≡ c → (b ≡ true → row_at t q rows ≡ None) → row_at t q rows ≡ cond c None (cond b (Some r) (row_at t q rows))
    skipped true true e none = none refl
    skipped false false e none = refl
    skipped true false e none = cc
    skipped false true e none = cc

    of : (b : Bool) → bytes_eq (id_key t r) id ≡ b → row_at t q (without_row t id rows) ≡ (if bytes_eq id q then None else row_at t q rows)
        → row_at t q (cond b rows (r ∷ without_row t id rows)) ≡ (if bytes_eq id q then None else row_at t q (r ∷ rows))
    of true e later = skipped (bytes_eq (id_key t r) q) (bytes_eq id q) (ap (λ (k : Bytes). bytes_eq k q) (same_key (id_key t r) id e)) none_later
    of false e later =
        ap (λ (o : Option Fields). cond (bytes_eq (id_key t r) q) (Some r) o) later
        ∙ in_turn (bytes_eq (id_key t r) q) (bytes_eq id q) (Some r) None (row_at t q rows) (not_both (id_key t r) id q e)
