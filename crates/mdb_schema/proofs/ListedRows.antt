-- The rows that a wipe lists are rows of the table, each once.
use Rattle.std.proofs.Common.{◌≡◌, ◌⊎◌, ◌∙◌, List, [], ◌∷◌, map, Bool, true, false, cond, Contains, Ordering, Less, Equal, Greater, refl, sym, ap, subst, inl, inr}
use Rattle.std.specs.FinMap.Entries as finite
use Rattle.std.specs.List.{IsDistinct}
use Rattle.std.specs.Str.{bytes_eq}
use Rattle.std.proofs.lemmas.Bool.{or_cases, or_parts}
use Rattle.std.proofs.lemmas.List.Elements.{All-from_recursion, recursion_from_All, All-contains}
use Rattle.std.proofs.lemmas.Map.Keys.{IsDistinct-head, IsDistinct-cons}
use Rattle.mdb_datum.specs.Pairs.{rows_of}
use Rattle.mdb_datum.specs.Row.{Fields, Pair}
use Rattle.mdb_encode.specs.Bytes.{Bytes, byte_order}
use Rattle.mdb_schema.specs.Entries.{with_entries, entries}
use Rattle.mdb_schema.specs.Schema.{IndexSchema, TableSchema}
use Rattle.mdb_schema.specs.State.{id_key, full_keys}
use Rattle.mdb_schema.specs.Wipe.{once_after, once}
use Rattle.mdb_schema.specs.Write.{is_among}
use Rattle.mdb_schema.proofs.Membership.{Contains-nil, Contains-first, Contains-later, Contains-cons_cases, Contains-map, Contains-from_map, Contains-from_filter, All-from_contains, same_key, bytes_eq-comm}
use Rattle.mdb_schema.proofs.RowsById.{AreRising, one_row}

-- ---- the rows of entries

put-rows : (k : Bytes) (row : Fields) (es : List Pair) (x : Fields) → Contains (rows_of (finite.put byte_order k row es)) x → (row ≡ x) ⊎ Contains (rows_of es) x
put-rows k row [] x h = Contains-cons_cases row [] x h
put-rows k row (e ∷ es) x h = of (byte_order k e.0) h (λ within. put-rows k row es x within)
  where
    of : (o : Ordering) → Contains (rows_of (finite.by_order o ((k, row) ∷ e ∷ es) ((e.0, row) ∷ es) (e ∷ finite.put byte_order k row es))) x
        → (Contains (rows_of (finite.put byte_order k row es)) x → (row ≡ x) ⊎ Contains (rows_of es) x) → (row ≡ x) ⊎ Contains (rows_of (e ∷ es)) x
    of Less h later = Contains-cons_cases row (rows_of (e ∷ es)) x h
    of Equal h later = elim (Contains-cons_cases row (rows_of es) x h) [ inl same ↦ inl same | inr within ↦ inr (Contains-later e.1 (rows_of es) x within) ]
    of Greater h later = elim (Contains-cons_cases e.1 (rows_of (finite.put byte_order k row es)) x h) [
      | inl same ↦ inr (subst (λ (y : Fields). Contains (rows_of (e ∷ es)) y) same (Contains-first e.1 (rows_of es)))
      | inr within ↦ elim (later within) [ inl is ↦ inl is | inr old ↦ inr (Contains-later e.1 (rows_of es) x old) ]
    ]

with_entries-rows : (ks : List Bytes) (row : Fields) (es : List Pair) (x : Fields) → Contains (rows_of (with_entries ks row es)) x → (row ≡ x) ⊎ Contains (rows_of es) x
with_entries-rows [] row es x h = inr h
with_entries-rows (k ∷ ks) row es x h = elim (put-rows k row (with_entries ks row es) x h) [
  | inl same ↦ inl same
  | inr within ↦ with_entries-rows ks row es x within
]

pub entries-rows : (t : TableSchema) (i : IndexSchema) (rows : List Fields) (x : Fields) → Contains (rows_of (entries t i rows)) x → Contains rows x
entries-rows t i [] x h = h
entries-rows t i (r ∷ rows) x h = elim (with_entries-rows (full_keys t i r) r (entries t i rows) x h) [
  | inl same ↦ subst (λ (y : Fields). Contains (r ∷ rows) y) same (Contains-first r rows)
  | inr within ↦ Contains-later r rows x (entries-rows t i rows x within)
]

pub where_key-rows : (p : Bytes → Bool) (es : List Pair) (x : Fields) → Contains (rows_of (finite.where_key byte_order p es)) x → Contains (rows_of es) x
where_key-rows p es x h =
    let w = Contains-from_map (λ (e : Pair). e.1) (finite.where_key byte_order p es) x h in
    let within = (Contains-from_filter (λ (e : Pair). p e.0) es w.0 w.1).0 in
    subst (λ (y : Fields). Contains (rows_of es) y) w.2 (Contains-map (λ (e : Pair). e.1) es w.0 within)

-- ---- each once

pub distinct-cons : (k : Bytes) (ks : List Bytes) → ((j : Bytes) → Contains ks j → bytes_eq k j ≡ false) → IsDistinct bytes_eq ks → IsDistinct bytes_eq (k ∷ ks)
distinct-cons k ks apart distinct =
    IsDistinct-cons bytes_eq k ks (recursion_from_All (λ (j : Bytes). bytes_eq k j ≡ false) ks (All-from_contains (λ (j : Bytes). bytes_eq k j ≡ false) ks apart)) distinct

pub distinct-first : (k : Bytes) (ks : List Bytes) → IsDistinct bytes_eq (k ∷ ks) → (j : Bytes) → Contains ks j → bytes_eq k j ≡ false
distinct-first k ks distinct j h =
    All-contains (λ (j : Bytes). bytes_eq k j ≡ false) ks j (All-from_recursion (λ (j : Bytes). bytes_eq k j ≡ false) ks (IsDistinct-head bytes_eq k ks distinct)) h

pub once_after-rows : (t : TableSchema) (seen : List Bytes) (rs : List Fields) (x : Fields) → Contains (once_after t seen rs) x → Contains rs x
once_after-rows t seen [] x h = h
once_after-rows t seen (r ∷ rs) x h = of (is_among seen (id_key t r)) h (λ within. once_after-rows t seen rs x within) (λ within. once_after-rows t (id_key t r ∷ seen) rs x within)
  where
    of : (b : Bool) → Contains (cond b (once_after t seen rs) (r ∷ once_after t (id_key t r ∷ seen) rs)) x → (Contains (once_after t seen rs) x → Contains rs x)
        → (Contains (once_after t (id_key t r ∷ seen) rs) x → Contains rs x) → Contains (r ∷ rs) x
    of true h skipped later = Contains-later r rs x (skipped h)
    of false h skipped later = elim (Contains-cons_cases r (once_after t (id_key t r ∷ seen) rs) x h) [
      | inl same ↦ subst (λ (y : Fields). Contains (r ∷ rs) y) same (Contains-first r rs)
      | inr within ↦ Contains-later r rs x (later within)
    ]

-- none of them has an `id` key that came before
once_after-unseen : (t : TableSchema) (seen : List Bytes) (rs : List Fields) (x : Fields) → Contains (once_after t seen rs) x → is_among seen (id_key t x) ≡ false
once_after-unseen t seen [] x h = absurd (Contains-nil x h)
once_after-unseen t seen (r ∷ rs) x h = of (is_among seen (id_key t r)) refl h (λ within. once_after-unseen t seen rs x within) (λ within. once_after-unseen t (id_key t r ∷ seen) rs x within)
  where
    of : (b : Bool) → is_among seen (id_key t r) ≡ b → Contains (cond b (once_after t seen rs) (r ∷ once_after t (id_key t r ∷ seen) rs)) x
        → (Contains (once_after t seen rs) x → is_among seen (id_key t x) ≡ false) → (Contains (once_after t (id_key t r ∷ seen) rs) x → is_among (id_key t r ∷ seen) (id_key t x) ≡ false) → is_among seen (id_key t x) ≡ false
    of true e h skipped later = skipped h
    of false e h skipped later = elim (Contains-cons_cases r (once_after t (id_key t r ∷ seen) rs) x h) [
      | inl same ↦ ap (λ (y : Fields). is_among seen (id_key t y)) (sym same) ∙ e
      | inr within ↦ (or_parts (bytes_eq (id_key t x) (id_key t r)) (is_among seen (id_key t x)) (later within)).1
    ]

once_after-distinct : (t : TableSchema) (seen : List Bytes) (rs : List Fields) → IsDistinct bytes_eq (map (id_key t) (once_after t seen rs))
unfolding IsDistinct
once_after-distinct t seen [] = tt
once_after-distinct t seen (r ∷ rs) = of (is_among seen (id_key t r)) (once_after-distinct t seen rs) (once_after-distinct t (id_key t r ∷ seen) rs)
  where
    apart : (k : Bytes) → Contains (map (id_key t) (once_after t (id_key t r ∷ seen) rs)) k → bytes_eq (id_key t r) k ≡ false
    apart k h =
        let w = Contains-from_map (id_key t) (once_after t (id_key t r ∷ seen) rs) k h in
        let unseen = once_after-unseen t (id_key t r ∷ seen) rs w.0 w.1 in
        subst (λ (j : Bytes). bytes_eq (id_key t r) j ≡ false) w.2
        (bytes_eq-comm (id_key t w.0) (id_key t r) false (or_parts (bytes_eq (id_key t w.0) (id_key t r)) (is_among seen (id_key t w.0)) unseen).0)

    of : (b : Bool) → IsDistinct bytes_eq (map (id_key t) (once_after t seen rs)) → IsDistinct bytes_eq (map (id_key t) (once_after t (id_key t r ∷ seen) rs))
        → IsDistinct bytes_eq (map (id_key t) (cond b (once_after t seen rs) (r ∷ once_after t (id_key t r ∷ seen) rs)))
    of true skipped later = skipped
    of false skipped later = distinct-cons (id_key t r) (map (id_key t) (once_after t (id_key t r ∷ seen) rs)) apart later

-- each `id` key came before, or comes once
once_after-keys : (t : TableSchema) (seen : List Bytes) (rs : List Fields) (x : Fields) → Contains rs x
    → (is_among seen (id_key t x) ≡ true) ⊎ Contains (map (id_key t) (once_after t seen rs)) (id_key t x)
once_after-keys t seen [] x h = absurd (Contains-nil x h)
once_after-keys t seen (r ∷ rs) x h = of (is_among seen (id_key t r)) refl (λ within. once_after-keys t seen rs x within) (λ within. once_after-keys t (id_key t r ∷ seen) rs x within)
  where
    first : id_key t r ≡ id_key t x → Contains (id_key t r ∷ map (id_key t) (once_after t (id_key t r ∷ seen) rs)) (id_key t x)
    first same = subst (λ (k : Bytes). Contains (id_key t r ∷ map (id_key t) (once_after t (id_key t r ∷ seen) rs)) k) same (Contains-first (id_key t r) (map (id_key t) (once_after t (id_key t r ∷ seen) rs)))

    told : (is_among (id_key t r ∷ seen) (id_key t x) ≡ true) ⊎ Contains (map (id_key t) (once_after t (id_key t r ∷ seen) rs)) (id_key t x)
        → (is_among seen (id_key t x) ≡ true) ⊎ Contains (id_key t r ∷ map (id_key t) (once_after t (id_key t r ∷ seen) rs)) (id_key t x)
    told (inl e) = elim (or_cases (bytes_eq (id_key t x) (id_key t r)) (is_among seen (id_key t x)) e) [
      | inl is ↦ inr (first (sym (same_key (id_key t x) (id_key t r) is)))
      | inr before ↦ inl before
    ]
    told (inr k) = inr (Contains-later (id_key t r) (map (id_key t) (once_after t (id_key t r ∷ seen) rs)) (id_key t x) k)

    of : (b : Bool) → is_among seen (id_key t r) ≡ b
        → (Contains rs x → (is_among seen (id_key t x) ≡ true) ⊎ Contains (map (id_key t) (once_after t seen rs)) (id_key t x))
        → (Contains rs x → (is_among (id_key t r ∷ seen) (id_key t x) ≡ true) ⊎ Contains (map (id_key t) (once_after t (id_key t r ∷ seen) rs)) (id_key t x))
        → (is_among seen (id_key t x) ≡ true) ⊎ Contains (map (id_key t) (cond b (once_after t seen rs) (r ∷ once_after t (id_key t r ∷ seen) rs))) (id_key t x)
    of true e skipped later = elim (Contains-cons_cases r rs x h) [
      | inl same ↦ inl (ap (λ (y : Fields). is_among seen (id_key t y)) (sym same) ∙ e)
      | inr within ↦ skipped within
    ]
    of false e skipped later = elim (Contains-cons_cases r rs x h) [
      | inl same ↦ inr (first (ap (id_key t) same))
      | inr within ↦ told (later within)
    ]

pub once-rows : (t : TableSchema) (rs : List Fields) (x : Fields) → Contains (once t rs) x → Contains rs x
once-rows t rs x h = once_after-rows t [] rs x h

pub once-distinct : (t : TableSchema) (rs : List Fields) → IsDistinct bytes_eq (map (id_key t) (once t rs))
once-distinct t rs = once_after-distinct t [] rs

-- of rows of a table each comes once
pub once-contains : (t : TableSchema) (rows rs : List Fields) → AreRising t rows → ((x : Fields) → Contains rs x → Contains rows x) → (x : Fields) → Contains rs x → Contains (once t rs) x
once-contains t rows rs rising within x h = elim (once_after-keys t [] rs x h) [
  | inl seen ↦ cc
  | inr key ↦
      let w = Contains-from_map (id_key t) (once t rs) (id_key t x) key in
      subst (λ (y : Fields). Contains (once t rs) y) (one_row t rows w.0 x rising (within w.0 (once-rows t rs w.0 w.1)) (within x h) w.2) w.1
]
