-- What a write does to the entries of an index: after a put, the full keys of the old row that the
-- new one doesn't have are taken out, and those of the new one are put in; after a removal, those
-- of the old row are taken out.
use Rattle.std.proofs.Common.{◌≡◌, ◌∙◌, ◌&&◌, List, Bool, true, false, not, cond, Option, Some, None, Ok, Contains, refl, sym, ap, inl, inr}
use Rattle.std.specs.Prelude.{if◌then◌else◌}
use Rattle.std.specs.List.{find}
use Rattle.std.specs.Str.{bytes_eq}
use Rattle.std.proofs.lemmas.Bool.{both_ways, false≢true, false_from_ne_true}
use Rattle.mdb_datum.specs.Row.{Fields}
use Rattle.mdb_encode.specs.Bytes.{Bytes}
use Rattle.mdb_schema.specs.Entries.{entries}
use Rattle.mdb_schema.specs.Schema.{IndexSchema, TableSchema}
use Rattle.mdb_schema.specs.State.{id_key, full_keys, row_at, with_row, without_row, AreLawfulRows}
use Rattle.mdb_schema.specs.Write.{Changed, is_among, put_row, remove_row}
use Rattle.mdb_schema.specs.Edits.{put_all, without_all, stale_keys, full_keys_of}
use Rattle.mdb_schema.proofs.EntriesOfRows.{has_full_key, AreApart, apart_in, one_with_key, sorted-entries, entry_at-entries}
use Rattle.mdb_schema.proofs.EntryEdits.{entry_at, sorted-put_all, sorted-without_all, same_pairs, entry_at-put_all, entry_at-without_all, is_among-stale_keys}
use Rattle.mdb_schema.proofs.FirstFound.{find-nothing, find-only, find-alike}
use Rattle.mdb_schema.proofs.Membership.{is_among-true, bytes_eq-itself, bytes_eq-comm, same_key}
use Rattle.mdb_schema.proofs.RowsById.{AreRising, row_at-some, row_at-row}
use Rattle.mdb_schema.proofs.RowsWith.{Contains-with_row, Contains-with_row_other, with_row-cases}
use Rattle.mdb_schema.proofs.RowsWithout.{Contains-without_row, without_row-cases}
use Rattle.mdb_schema.proofs.WriteTests.{IsFree}
use Rattle.mdb_schema.proofs.Writes.{put_accepted, remove_accepted}

module _ (t : TableSchema) (i : IndexSchema) (rows : List Fields) (rising : AreRising t rows) (apart : AreApart t i rows) where
  -- the row of an `id` key is the one that is found under it
  found_there : (id : Bytes) (x : Fields) → Contains rows x → bytes_eq id (id_key t x) ≡ true → row_at t id rows ≡ Some x
  found_there id x h e = ap (λ (k : Bytes). row_at t k rows) (same_key id (id_key t x) e) ∙ row_at-row t rows x rising h

  -- a row of another `id` key shares no full key with it
  not_shared : (id q : Bytes) (y : Fields) → Contains rows y → bytes_eq id (id_key t y) ≡ false → is_among (full_keys_of t i (row_at t id rows)) q ≡ true → has_full_key t i q y ≡ true → ⊥
  not_shared id q y h other old pass = of (row_at t id rows) refl old
    where
      of : (o : Option Fields) → row_at t id rows ≡ o → is_among (full_keys_of t i o) q ≡ true → ⊥
      of None e has = false≢true has
      of (Some x) e has =
          let w = row_at-some t id rows x e in
          let same = one_with_key t i rows q y x apart h w.0 pass has in
          both_ways (bytes_eq id (id_key t y)) other
          (ap (λ (r : Fields). bytes_eq id (id_key t r)) same ∙ ap (bytes_eq id) w.1 ∙ bytes_eq-itself id)

  -- a row that has none of the old row's keys isn't the old row
  is_other : (id q : Bytes) (x : Fields) → Contains rows x → is_among (full_keys_of t i (row_at t id rows)) q ≡ false → has_full_key t i q x ≡ true → bytes_eq id (id_key t x) ≡ false
  is_other id q x h none pass = false_from_ne_true (bytes_eq id (id_key t x))
      (λ e. both_ways (has_full_key t i q x) (ap (λ (o : Option Fields). is_among (full_keys_of t i o) q) (sym (found_there id x h e)) ∙ none) pass)

  -- ---- a removal

  module _ (id : Bytes) where
    find-without_row : (q : Bytes) → find (has_full_key t i q) (without_row t id rows) ≡ (if is_among (full_keys_of t i (row_at t id rows)) q then None else find (has_full_key t i q) rows)
    find-without_row q = of (is_among (full_keys_of t i (row_at t id rows)) q) refl
      where
        of : (b : Bool) → is_among (full_keys_of t i (row_at t id rows)) q ≡ b → find (has_full_key t i q) (without_row t id rows) ≡ (if b then None else find (has_full_key t i q) rows)
        of true old = find-nothing (has_full_key t i q) (without_row t id rows) (λ y h.
            let w = without_row-cases t id rows y rising h in
            false_from_ne_true (has_full_key t i q y) (λ pass. not_shared id q y w.0 (bytes_eq-comm (id_key t y) id false w.1) old pass))
        of false none = sym (find-alike (has_full_key t i q) rows (without_row t id rows) (λ x y h k e f. one_with_key t i rows q x y apart h k e f)
            (λ x h pass. Contains-without_row t id rows x rising h (bytes_eq-comm id (id_key t x) false (is_other id q x h none pass)))
            (λ x h pass. (without_row-cases t id rows x rising h).0))

    pub entries-without_row : entries t i (without_row t id rows) ≡ without_all (full_keys_of t i (row_at t id rows)) (entries t i rows)
    entries-without_row =
        let old = full_keys_of t i (row_at t id rows) in
        let es = entries t i rows in
        same_pairs (entries t i (without_row t id rows)) (without_all old es) (sorted-entries t i (without_row t id rows)) (sorted-without_all old es (sorted-entries t i rows))
        (λ q. entry_at-entries t i q (without_row t id rows) ∙ find-without_row q
        ∙ ap (λ (o : Option Fields). cond (is_among old q) None o) (sym (entry_at-entries t i q rows)) ∙ sym (entry_at-without_all q old es))

  -- ---- a put

  module _ (row : Fields) (free : IsFree t row rows i) where
    abbrev old_keys : List Bytes
    old_keys = full_keys_of t i (row_at t (id_key t row) rows)

    -- no row of another `id` key has a full key of the new row
    not_taken : (q : Bytes) (y : Fields) → Contains rows y → bytes_eq (id_key t row) (id_key t y) ≡ false → has_full_key t i q row ≡ true → has_full_key t i q y ≡ true → ⊥
    not_taken q y h other new pass =
        free y h (bytes_eq-comm (id_key t row) (id_key t y) false other) (q, is_among-true (full_keys t i row) q new, is_among-true (full_keys t i y) q pass)

    find-with_row : (q : Bytes) → find (has_full_key t i q) (with_row t row rows) ≡ (if has_full_key t i q row then Some row else if not (has_full_key t i q row) && is_among old_keys q then None else find (has_full_key t i q) rows)
    find-with_row q = of (has_full_key t i q row) refl (is_among old_keys q) refl
      where
        of : (n : Bool) → has_full_key t i q row ≡ n → (b : Bool) → is_among old_keys q ≡ b
            → find (has_full_key t i q) (with_row t row rows) ≡ (if n then Some row else if not n && b then None else find (has_full_key t i q) rows)
        of true new b told = find-only (has_full_key t i q) (with_row t row rows) row (Contains-with_row t row rows) new
            (λ y h pass. elim (with_row-cases t row rows y rising h) [ inl same ↦ sym same | inr w ↦ absurd (not_taken q y w.0 w.1 new pass) ])
        of false new true old = find-nothing (has_full_key t i q) (with_row t row rows)
            (λ y h. elim (with_row-cases t row rows y rising h) [
              | inl same ↦ ap (has_full_key t i q) (sym same) ∙ new
              | inr w ↦ false_from_ne_true (has_full_key t i q y) (λ pass. not_shared (id_key t row) q y w.0 w.1 old pass)
            ])
        of false new false none = sym (find-alike (has_full_key t i q) rows (with_row t row rows) (λ x y h k e f. one_with_key t i rows q x y apart h k e f)
            (λ x h pass. Contains-with_row_other t row rows x rising h (is_other (id_key t row) q x h none pass))
            (λ x h pass. elim (with_row-cases t row rows x rising h) [
              | inl same ↦ absurd (both_ways (has_full_key t i q row) new (ap (has_full_key t i q) same ∙ pass))
              | inr w ↦ w.0
            ]))

    pub entries-with_row : entries t i (with_row t row rows) ≡ put_all (full_keys t i row) row (without_all (stale_keys (full_keys t i row) old_keys) (entries t i rows))
    entries-with_row =
        let new = full_keys t i row in
        let stale = stale_keys new old_keys in
        let es = entries t i rows in
        let kept = without_all stale es in
        same_pairs (entries t i (with_row t row rows)) (put_all new row kept) (sorted-entries t i (with_row t row rows)) (sorted-put_all new row kept (sorted-without_all stale es (sorted-entries t i rows)))
        (λ q. entry_at-entries t i q (with_row t row rows) ∙ find-with_row q
        ∙ ap (λ (o : Option Fields). cond (is_among new q) (Some row) o)
        (ap (λ (o : Option Fields). cond (not (is_among new q) && is_among old_keys q) None o) (sym (entry_at-entries t i q rows))
        ∙ ap (λ (b : Bool). cond b None (entry_at q es)) (sym (is_among-stale_keys q new old_keys))
        ∙ sym (entry_at-without_all q stale es))
        ∙ sym (entry_at-put_all q new row kept))

-- ---- the same, of writes that are accepted

pub entries-put_row : (t : TableSchema) (i : IndexSchema) (row : Fields) (rows : List Fields) (c : Changed) → AreLawfulRows t rows → Contains t.indexes i → put_row t row rows ≡ Ok c
    → entries t i c.0 ≡ put_all (full_keys t i row) row (without_all (stale_keys (full_keys t i row) (full_keys_of t i c.1)) (entries t i rows))
entries-put_row t i row rows c lawful within e =
    let put = put_accepted t row rows c e in
    ap (λ (d : Changed). entries t i d.0) (sym put.1)
    ∙ entries-with_row t i rows lawful.rising (apart_in t i rows lawful within) row (put.0.free i within)
    ∙ ap (λ (d : Changed). put_all (full_keys t i row) row (without_all (stale_keys (full_keys t i row) (full_keys_of t i d.1)) (entries t i rows))) put.1

pub entries-remove_row : (t : TableSchema) (i : IndexSchema) (row : Fields) (rows : List Fields) (c : Changed) → AreLawfulRows t rows → Contains t.indexes i → remove_row t row rows ≡ Ok c
    → entries t i c.0 ≡ without_all (full_keys_of t i c.1) (entries t i rows)
entries-remove_row t i row rows c lawful within e =
    let removed = remove_accepted t row rows c e in
    ap (λ (d : Changed). entries t i d.0) (sym removed.2)
    ∙ entries-without_row t i rows lawful.rising (apart_in t i rows lawful within) (id_key t row)
    ∙ ap (λ (o : Option Fields). without_all (full_keys_of t i o) (entries t i rows)) (removed.1.there ∙ ap (λ (d : Changed). d.1) removed.2)
