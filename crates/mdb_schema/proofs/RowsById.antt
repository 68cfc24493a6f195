-- The rows of a table by their `id` keys, which rise, and what is found under a key.
use Rattle.std.proofs.Common.{◌≡◌, ◌∙◌, List, [], ◌∷◌, map, Bool, true, false, if◌then◌else◌, Some, None, Contains, Less, Greater, is_eq, refl, sym, ap, subst, inl, inr}
use Rattle.std.specs.List.Sorted.{IsStrictlySortedBy}
use Rattle.std.specs.Str.{bytes_eq}
use Rattle.std.proofs.lemmas.Bool.{cond-true, cond-false}
use Rattle.std.proofs.lemmas.List.Elements.{All-from_recursion, recursion_from_All, All-contains}
use Rattle.std.proofs.lemmas.Map.Keys.{sorted_head, sorted_tail}
use Rattle.std.proofs.lemmas.Map.Text.{is_eq-slice_cmp}
use Rattle.mdb_datum.specs.Row.{Fields}
use Rattle.mdb_encode.specs.Bytes.{Bytes, byte_order}
use Rattle.mdb_schema.specs.Schema.{TableSchema}
use Rattle.mdb_schema.specs.State.{id_key, row_at}
use Rattle.mdb_schema.proofs.Membership.{Contains-nil, Contains-first, Contains-later, Contains-cons_cases, Contains-map, Contains-from_map, All-from_contains, same_key, bytes_eq-itself}

-- ---- keys

pub apart_from_less : (a b : Bytes) → byte_order a b ≡ Less → bytes_eq a b ≡ false
apart_from_less a b e = sym (is_eq-slice_cmp a b) ∙ ap is_eq e

pub apart_from_greater : (a b : Bytes) → byte_order a b ≡ Greater → bytes_eq a b ≡ false
apart_from_greater a b e = sym (is_eq-slice_cmp a b) ∙ ap is_eq e

-- ---- the order of the rows

module _ (t : TableSchema) where
  -- the `id` keys rise
  abbrev pub AreRising : List Fields → Type 0
  AreRising rows = IsStrictlySortedBy byte_order (map (id_key t) rows)

  pub rising-nil : AreRising []
  unfolding IsStrictlySortedBy
  rising-nil = tt

  pub rising-cons : (r : Fields) (rows : List Fields) → ((x : Fields) → Contains rows x → byte_order (id_key t r) (id_key t x) ≡ Less) → AreRising rows → AreRising (r ∷ rows)
  unfolding IsStrictlySortedBy
  rising-cons r rows below rising = (
    recursion_from_All (λ k. byte_order (id_key t r) k ≡ Less) (map (id_key t) rows)
        (All-from_contains (λ k. byte_order (id_key t r) k ≡ Less) (map (id_key t) rows)
        (λ k h. let w = Contains-from_map (id_key t) rows k h in subst (λ (z : Bytes). byte_order (id_key t r) z ≡ Less) w.2 (below w.0 w.1))),
    rising,
  )

  pub rising-rest : (r : Fields) (rows : List Fields) → AreRising (r ∷ rows) → AreRising rows
  rising-rest r rows rising = sorted_tail byte_order (id_key t r) (map (id_key t) rows) rising

  -- the first is below each later one
  pub rising-first : (r : Fields) (rows : List Fields) → AreRising (r ∷ rows) → (x : Fields) → Contains rows x → byte_order (id_key t r) (id_key t x) ≡ Less
  rising-first r rows rising x h =
      All-contains (λ k. byte_order (id_key t r) k ≡ Less) (map (id_key t) rows) (id_key t x)
      (All-from_recursion (λ k. byte_order (id_key t r) k ≡ Less) (map (id_key t) rows) (sorted_head byte_order (id_key t r) (map (id_key t) rows) rising))
      (Contains-map (id_key t) rows x h)

  pub first_apart : (r : Fields) (rows : List Fields) → AreRising (r ∷ rows) → (x : Fields) → Contains rows x → bytes_eq (id_key t r) (id_key t x) ≡ false
  first_apart r rows rising x h = apart_from_less (id_key t r) (id_key t x) (rising-first r rows rising x h)

  -- ---- what is found

  pub row_at-some : (id : Bytes) (rows : List Fields) (r : Fields) → row_at t id rows ≡ Some r → Contains rows r × (id_key t r ≡ id)
  row_at-some id [] r e = cc
  row_at-some id (z ∷ rows) r e = of (bytes_eq (id_key t z) id) refl e (λ later. row_at-some id rows r later)
    where
      of : (b : Bool) → bytes_eq (id_key t z) id ≡ b → (if b then Some z else row_at t id rows) ≡ Some r → (row_at t id rows ≡ Some r → Contains rows r × (id_key t r ≡ id))
          → Contains (z ∷ rows) r × (id_key t r ≡ id)
      of true here e later =
          let same : z ≡ r = cc in
          (subst (λ (x : Fields). Contains (z ∷ rows) x) same (Contains-first z rows), ap (id_key t) (sym same) ∙ same_key (id_key t z) id here)
      of false other e later = let w = later e in (Contains-later z rows r w.0, w.1)

  pub row_at-none : (id : Bytes) (rows : List Fields) → row_at t id rows ≡ None → (r : Fields) → Contains rows r → bytes_eq (id_key t r) id ≡ false
  row_at-none id [] e r h = absurd (Contains-nil r h)
  row_at-none id (z ∷ rows) e r h = of (bytes_eq (id_key t z) id) refl e (λ later within. row_at-none id rows later r within)
    where
      of : (b : Bool) → bytes_eq (id_key t z) id ≡ b → (if b then Some z else row_at t id rows) ≡ None → (row_at t id rows ≡ None → Contains rows r → bytes_eq (id_key t r) id ≡ false)
          → bytes_eq (id_key t r) id ≡ false
      of true here e later = cc
      of false other e later = elim (Contains-cons_cases z rows r h) [
        | inl same ↦ ap (λ (x : Fields). bytes_eq (id_key t x) id) (sym same) ∙ other
        | inr within ↦ later e within
      ]

  pub row_at-nothing : (id : Bytes) (rows : List Fields) → ((r : Fields) → Contains rows r → bytes_eq (id_key t r) id ≡ false) → row_at t id rows ≡ None
  row_at-nothing id [] none = refl
  row_at-nothing id (z ∷ rows) none =
      cond-false (bytes_eq (id_key t z) id) (Some z) (row_at t id rows) (none z (Contains-first z rows))
      ∙ row_at-nothing id rows (λ r h. none r (Contains-later z rows r h))

  -- each row is found under its own key
  pub row_at-row : (rows : List Fields) (r : Fields) → AreRising rows → Contains rows r → row_at t (id_key t r) rows ≡ Some r
  row_at-row [] r rising h = absurd (Contains-nil r h)
  row_at-row (z ∷ rows) r rising h = elim (Contains-cons_cases z rows r h) [
    | inl same ↦ cond-true (bytes_eq (id_key t z) (id_key t r)) (Some z) (row_at t (id_key t r) rows) (ap (λ (x : Fields). bytes_eq (id_key t x) (id_key t r)) same ∙ bytes_eq-itself (id_key t r)) ∙ ap Some same
    | inr within ↦ cond-false (bytes_eq (id_key t z) (id_key t r)) (Some z) (row_at t (id_key t r) rows) (first_apart z rows rising r within)
        ∙ row_at-row rows r (rising-rest z rows rising) within
  ]

  -- rows of one `id` key are one row
  pub one_row : (rows : List Fields) (r x : Fields) → AreRising rows → Contains rows r → Contains rows x → id_key t r ≡ id_key t x → r ≡ x
  one_row rows r x rising h k same =
      let e = sym (row_at-row rows r rising h) ∙ ap (λ (id : Bytes). row_at t id rows) same ∙ row_at-row rows x rising k in cc
