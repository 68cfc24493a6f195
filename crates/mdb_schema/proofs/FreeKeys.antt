-- Whether a full key is taken by a row of another `id` key, told by one look-up a key.
use Rattle.std.proofs.Common.{◌≡◌, ◌∙◌, ◌&&◌, ◌||◌, List, [], ◌∷◌, Bool, true, false, not, Option, Some, None, Contains, IfSome, is_some, refl, sym, ap}
use Rattle.std.specs.List.{list_any}
use Rattle.std.specs.Str.{bytes_eq}
use Rattle.std.proofs.lemmas.Bool.{and_from, and_parts, false≢true, not-false}
use Rattle.mdb_datum.specs.Row.{Fields}
use Rattle.mdb_encode.specs.Bytes.{Bytes}
use Rattle.mdb_schema.specs.Entries.{entries}
use Rattle.mdb_schema.specs.Schema.{IndexSchema, TableSchema}
use Rattle.mdb_schema.specs.State.{id_key, full_keys, row_at}
use Rattle.mdb_schema.specs.Write.{is_among, is_taken_by}
use Rattle.mdb_schema.specs.Edits.{full_keys_of}
use Rattle.mdb_schema.proofs.EntriesOfRows.{AreApart, entry_at-some, entry_at-row}
use Rattle.mdb_schema.proofs.EntryEdits.{entry_at}
use Rattle.mdb_schema.proofs.Membership.{list_any-true, list_any-from, list_any-false, list_any-none, is_among-from, is_among-true, bytes_eq-itself, same_key}
use Rattle.mdb_schema.proofs.RowsById.{AreRising, row_at-some, row_at-row}

-- a row that was found has another `id` key
abbrev pub has_other_id : TableSchema → Bytes → Option Fields → Bool
has_other_id t id None = false
has_other_id t id (Some r) = not (bytes_eq (id_key t r) id)

pub same_answer : (a b : Bool) → (a ≡ true → b ≡ true) → (b ≡ true → a ≡ true) → a ≡ b
same_answer true b f g = sym (f refl)
same_answer false true f g = g refl
same_answer false false f g = refl

module _ (t : TableSchema) (i : IndexSchema) (rows : List Fields) (apart : AreApart t i rows) (id : Bytes) where
  taken_from_rows : (ks : List Bytes) → list_any (is_taken_by t i id ks) rows ≡ true → list_any (λ k. has_other_id t id (entry_at k (entries t i rows))) ks ≡ true
  taken_from_rows ks e =
      let r = list_any-true (is_taken_by t i id ks) rows e in
      let taken = and_parts _ _ r.2 in
      let k = list_any-true (is_among ks) (full_keys t i r.0) taken.1 in
      list_any-from (λ k. has_other_id t id (entry_at k (entries t i rows))) ks k.0 (is_among-true ks k.0 k.2)
      (ap (has_other_id t id) (entry_at-row t i k.0 rows r.0 apart r.1 k.1) ∙ taken.0)

  taken_from_looks : (ks : List Bytes) → list_any (λ k. has_other_id t id (entry_at k (entries t i rows))) ks ≡ true → list_any (is_taken_by t i id ks) rows ≡ true
  taken_from_looks ks e =
      let k = list_any-true (λ k. has_other_id t id (entry_at k (entries t i rows))) ks e in
      of k.0 k.1 (entry_at k.0 (entries t i rows)) refl k.2
    where
      of : (k : Bytes) → Contains ks k → (o : Option Fields) → entry_at k (entries t i rows) ≡ o → has_other_id t id o ≡ true → list_any (is_taken_by t i id ks) rows ≡ true
      of k h None found other = absurd (false≢true other)
      of k h (Some r) found other =
          let w = entry_at-some t i k rows r found in
          list_any-from (is_taken_by t i id ks) rows r w.0 (and_from _ _ other (list_any-from (is_among ks) (full_keys t i r) k w.1 (is_among-from ks k h)))

  -- one of the keys is taken exactly where a look-up of one finds a row of another `id` key
  pub is_taken_by-looks : (ks : List Bytes) → list_any (is_taken_by t i id ks) rows ≡ list_any (λ k. has_other_id t id (entry_at k (entries t i rows))) ks
  is_taken_by-looks ks = same_answer _ _ (taken_from_rows ks) (taken_from_looks ks)

  other_false : (o : Option Fields) → has_other_id t id o ≡ false → IfSome o (λ r. id_key t r ≡ id)
  other_false None e = tt
  other_false (Some r) e = same_key (id_key t r) id (not-false (bytes_eq (id_key t r) id) e)

  other_from : (o : Option Fields) → IfSome o (λ r. id_key t r ≡ id) → has_other_id t id o ≡ false
  other_from None h = refl
  other_from (Some r) h = ap (λ (k : Bytes). not (bytes_eq k id)) h ∙ ap not (bytes_eq-itself id)

  -- all are free exactly where each look-up finds nothing or the row of the `id` key
  pub free_looks : (ks : List Bytes) → list_any (is_taken_by t i id ks) rows ≡ false → (k : Bytes) → Contains ks k → IfSome (entry_at k (entries t i rows)) (λ r. id_key t r ≡ id)
  free_looks ks e k h = other_false (entry_at k (entries t i rows)) (list_any-false (λ k. has_other_id t id (entry_at k (entries t i rows))) ks k (sym (is_taken_by-looks ks) ∙ e) h)

  pub free_from_looks : (ks : List Bytes) → ((k : Bytes) → Contains ks k → IfSome (entry_at k (entries t i rows)) (λ r. id_key t r ≡ id)) → list_any (is_taken_by t i id ks) rows ≡ false
  free_from_looks ks looks = is_taken_by-looks ks ∙ list_any-none (λ k. has_other_id t id (entry_at k (entries t i rows))) ks (λ k h. other_from (entry_at k (entries t i rows)) (looks k h))

  -- ---- the old row's keys

  module _ (rising : AreRising t rows) where
    -- what is found under a key has the `id` key exactly where the key is one of the old row's
    pub found_is_old : (k : Bytes) (r : Fields) → entry_at k (entries t i rows) ≡ Some r → bytes_eq (id_key t r) id ≡ is_among (full_keys_of t i (row_at t id rows)) k
    found_is_old k r found = same_answer _ _ here (back (row_at t id rows) refl)
      where
        here : bytes_eq (id_key t r) id ≡ true → is_among (full_keys_of t i (row_at t id rows)) k ≡ true
        here e =
            let w = entry_at-some t i k rows r found in
            let is = ap (λ (q : Bytes). row_at t q rows) (sym (same_key (id_key t r) id e)) ∙ row_at-row t rows r rising w.0 in
            ap (λ (o : Option Fields). is_among (full_keys_of t i o) k) is ∙ is_among-from (full_keys t i r) k w.1

        back : (o : Option Fields) → row_at t id rows ≡ o → is_among (full_keys_of t i o) k ≡ true → bytes_eq (id_key t r) id ≡ true
        back None e has = absurd (false≢true has)
        back (Some old) e has =
            let w = row_at-some t id rows old e in
            let same : r ≡ old = let h = sym found ∙ entry_at-row t i k rows old apart w.0 (is_among-true (full_keys t i old) k has) in cc in
            ap (λ (x : Fields). bytes_eq (id_key t x) id) same ∙ ap (λ (q : Bytes). bytes_eq q id) w.1 ∙ bytes_eq-itself id

    other-is_stored : (k : Bytes) → has_other_id t id (entry_at k (entries t i rows)) ≡ (is_some (entry_at k (entries t i rows)) && not (is_among (full_keys_of t i (row_at t id rows)) k))
    other-is_stored k = of (entry_at k (entries t i rows)) refl
      where
        of : (o : Option Fields) → entry_at k (entries t i rows) ≡ o → has_other_id t id o ≡ (is_some o && not (is_among (full_keys_of t i (row_at t id rows)) k))
        of None found = refl
        of (Some r) found = ap not (found_is_old k r found)

    -- one is taken exactly where one is stored and none of the old row's
    pub is_taken_by-stored : (ks : List Bytes) → list_any (is_taken_by t i id ks) rows ≡ list_any (λ k. is_some (entry_at k (entries t i rows)) && not (is_among (full_keys_of t i (row_at t id rows)) k)) ks
    is_taken_by-stored ks = is_taken_by-looks ks ∙ alike ks
      where
        alike : (ks : List Bytes) → list_any (λ k. has_other_id t id (entry_at k (entries t i rows))) ks ≡ list_any (λ k. is_some (entry_at k (entries t i rows)) && not (is_among (full_keys_of t i (row_at t id rows)) k)) ks
        alike [] = refl
        alike (k ∷ ks) = λ j. other-is_stored k j || alike ks j
