-- What a write of a row makes of the indexes of a table, by the rows.
use Rattle.std.proofs.Common.{◌≡◌, ◌⊎◌, ◌∙◌, ◌++◌, ℕ, List, [], ◌∷◌, Bool, true, false, not, slice_get, Option, Some, None, is_some, Ok, Contains, refl, sym, ap, subst, inl, inr}
use Rattle.std.specs.Prelude.{if◌then◌else◌, option_to_list}
use Rattle.std.proofs.lemmas.Bool.{not_from_false}
use Rattle.std.proofs.lemmas.List.Elements.{Contains-append_cases, Contains-append_left, Contains-append_right}
use Rattle.mdb_datum.specs.Bytes.{Bytes}
use Rattle.mdb_datum.specs.Row.{Fields, Pair}
use Rattle.mdb_schema.specs.Edits.{full_keys_of, stale_keys, without_all}
use Rattle.mdb_schema.specs.Entries.{entries}
use Rattle.mdb_schema.specs.Schema.{IndexSchema, TableSchema}
use Rattle.mdb_schema.specs.State.{full_keys, id_key, row_at, without_row}
use Rattle.mdb_schema.specs.Tests.{◌>>=◌, needed}
use Rattle.mdb_schema.specs.Write.{Changed, Tested, id_of, is_among, not_found, put_row, remove_row}
use Rattle.mdb_schema.proofs.EntriesAfter.{entries-put_row, entries-remove_row}
use Rattle.mdb_schema.proofs.IdKeys.{id_of-key}
use Rattle.mdb_schema.proofs.Membership.{Contains-cons_cases, Contains-filter, Contains-first, Contains-from_filter, Contains-later, Contains-nil, Contains-slice_get, is_among-true}
use Rattle.mdb_schema.proofs.PassedTests.{goes_on, needed_on}
use Rattle.run_check.specs.declared.edit.PutKeys.{PutKeys}
use Rattle.run_check.specs.declared.keys.RowKeys.{RowKeys}
use Rattle.run_check.specs.declared.sight.Sight.{Sight}
use Rattle.run_check.specs.declared.sight.Stamp.{Stamp}
use Rattle.run_check.specs.inner.EditView.{AreOldKeys, AreOut, AreReplaced, AreSeen, HasChanged, IsAccepted, IsEdited, IsKeyOfAny, IsWrittenIn, keys_in, old_lists, replacing, seen_of}
use Rattle.run_check.specs.inner.IndexView.{KeyVersions, sees}
use Rattle.run_check.specs.inner.KeyView.{AreKeysOf}
use Rattle.run_check.proofs.SeenRows.{keys_there, old_keys_there}

-- ---- in one index

where_seen : (f : List Pair → List Pair) (b : Bool) (x y before after : List Pair) → y ≡ (if b then f x else x) → b ≡ true → x ≡ before → after ≡ f before → y ≡ after
where_seen f true x y before after edited seen was made = edited ∙ ap f was ∙ sym made
where_seen f false x y before after edited seen was made = cc

where_unseen : (f : List Pair → List Pair) (b : Bool) (x y : List Pair) → y ≡ (if b then f x else x) → b ≡ false → y ≡ x
where_unseen f true x y edited seen = cc
where_unseen f false x y edited seen = edited

swap : {P Q C D : Type 0} → (C → D) → P ⊎ (C × Q) → P ⊎ (D × Q)
swap f (inl old) = inl old
swap f (inr new) = inr (f new.0, new.1)

module _ (t : TableSchema) (i : IndexSchema) (before after touched : List Fields) (stamp : Stamp) (f : List Pair → List Pair) (wrote : List Bytes) (x y : KeyVersions) where
  -- edits of the keys of rows
  pub written_in : entries t i after ≡ f (entries t i before) → ((k : Bytes) → Contains wrote k → IsKeyOfAny t i touched k) → ((k : Bytes) → IsKeyOfAny t i touched k → Contains wrote k)
      → IsEdited stamp f wrote x y → IsWrittenIn t i before after touched stamp x y
  written_in made forth back edited = record {
    seen = λ s is was. where_seen f (sees s stamp) (seen_of s x) (seen_of s y) (entries t i before) (entries t i after) (edited.seen s) is was made;
    unseen = λ s is. where_unseen f (sees s stamp) (seen_of s x) (seen_of s y) (edited.seen s) is;
    versions = λ k j. (λ h. swap (forth k) ((edited.versions k j).0 h), λ h. (edited.versions k j).1 (swap (back k) h));
    own = λ k o. (λ h. swap (forth k) ((edited.own k o).0 h), λ h. (edited.own k o).1 (swap (back k) h));
    commits = λ j. (
      λ h. swap (λ (w : (k : Bytes) × Contains wrote k). (w.0, forth w.0 w.1)) ((edited.touched j).0 h),
      λ h. (edited.touched j).1 (swap (λ (w : (k : Bytes) × IsKeyOfAny t i touched k). (w.0, back w.0 w.1)) h),
    );
  }

-- ---- the keys that are written

module _ (t : TableSchema) (i : IndexSchema) where
  -- those of a row that was there
  old_forth : (old : Option Fields) (k : Bytes) → Contains (full_keys_of t i old) k → IsKeyOfAny t i (option_to_list old) k
  old_forth None k h = absurd (Contains-nil k h)
  old_forth (Some r) k h = (r, Contains-first r [], h)

  old_back : (old : Option Fields) (k : Bytes) → IsKeyOfAny t i (option_to_list old) k → Contains (full_keys_of t i old) k
  old_back None k w = absurd (Contains-nil w.0 w.1)
  old_back (Some r) k w = elim (Contains-cons_cases r [] w.0 w.1) [
    | inl same ↦ subst (λ (x : Fields). Contains (full_keys t i x) k) (sym same) w.2
    | inr none ↦ absurd (Contains-nil w.0 none)
  ]

  -- those of a row that is put, and of the one that it replaces
  put_forth : (row : Fields) (old : Option Fields) (k : Bytes) → Contains (stale_keys (full_keys t i row) (full_keys_of t i old) ++ full_keys t i row) k → IsKeyOfAny t i (row ∷ [] ++ option_to_list old) k
  put_forth row old k h = elim (Contains-append_cases (stale_keys (full_keys t i row) (full_keys_of t i old)) (full_keys t i row) k h) [
    | inl stale ↦
        let w = old_forth old k (Contains-from_filter (λ q. not (is_among (full_keys t i row) q)) (full_keys_of t i old) k stale).0 in
        (w.0, Contains-later row (option_to_list old) w.0 w.1, w.2)
    | inr new ↦ (row, Contains-first row (option_to_list old), new)
  ]

  either : (new old : List Bytes) (k : Bytes) (b : Bool) → is_among new k ≡ b → Contains old k → Contains (stale_keys new old ++ new) k
  either new old k true among h = Contains-append_right (stale_keys new old) new k (is_among-true new k among)
  either new old k false other h = Contains-append_left (stale_keys new old) new k (Contains-filter (λ q. not (is_among new q)) old k h (not_from_false (is_among new k) other))

  put_back : (row : Fields) (old : Option Fields) (k : Bytes) → IsKeyOfAny t i (row ∷ [] ++ option_to_list old) k → Contains (stale_keys (full_keys t i row) (full_keys_of t i old) ++ full_keys t i row) k
  put_back row old k w = elim (Contains-cons_cases row (option_to_list old) w.0 w.1) [
    | inl same ↦ Contains-append_right (stale_keys (full_keys t i row) (full_keys_of t i old)) (full_keys t i row) k (subst (λ (x : Fields). Contains (full_keys t i x) k) (sym same) w.2)
    | inr was ↦ either (full_keys t i row) (full_keys_of t i old) k (is_among (full_keys t i row) k) refl (old_back old k (w.0, was, w.2))
  ]

-- ---- in each index

module _ (t : TableSchema) (row : Fields) (rows : List Fields) (s : Sight) (stamp : Stamp) (xs ys : List KeyVersions) (seen : AreSeen t rows s xs) where
  put_each : (ks : PutKeys) (accepted : IsAccepted t row rows ks) → AreReplaced stamp row ks.new.indexes.items (old_lists ks.old) xs ys
      → (at : ℕ) (i : IndexSchema) (x y : KeyVersions) → slice_get t.indexes at ≡ Some i → slice_get xs at ≡ Some x → slice_get ys at ≡ Some y
      → IsWrittenIn t i rows accepted.changed.0 (row ∷ [] ++ option_to_list accepted.changed.1) stamp x y
  put_each ks accepted replaced at i x y index was now =
      let c = accepted.changed in
      let new = keys_there t row ks.new accepted.new at i index in
      let old = old_keys_there t c.1 ks.old accepted.old at i index in
      let stale : List Bytes = stale_keys (full_keys t i row) (full_keys_of t i c.1) in
      written_in t i rows c.0 (row ∷ [] ++ option_to_list c.1) stamp (replacing row (full_keys t i row) (full_keys_of t i c.1)) (stale ++ full_keys t i row) x y
      (entries-put_row t i row rows c seen.lawful (Contains-slice_get t.indexes at i index) accepted.done)
      (put_forth t i row c.1) (put_back t i row c.1)
      (subst (λ (os : List Bytes). IsEdited stamp (replacing row (full_keys t i row) os) (stale_keys (full_keys t i row) os ++ full_keys t i row) x y) old
      (subst (λ (ns : List Bytes). IsEdited stamp (replacing row ns (keys_in (old_lists ks.old) at)) (stale_keys ns (keys_in (old_lists ks.old) at) ++ ns) x y) new (replaced at x y was now)))

  was_there : (old : Option Fields) (found : Option RowKeys) → AreOldKeys t old found → is_some found ≡ is_some old
  was_there None found none = ap is_some none
  was_there (Some r) found some = ap is_some some.1

  -- a put by keys that are accepted
  pub put_done : (ks : PutKeys) → IsAccepted t row rows ks → AreReplaced stamp row ks.new.indexes.items (old_lists ks.old) xs ys → (id : Bytes) (replaced : Bool) → id ≡ ks.new.id.items → replaced ≡ is_some ks.old
      → (h : HasChanged t rows (row ∷ []) (put_row t row rows) stamp xs ys) × (id ≡ id_key t row) × (replaced ≡ is_some h.changed.1)
  put_done ks accepted written id replaced told was = (
    record { changed = accepted.changed; done = accepted.done; each = put_each ks accepted written },
    told ∙ sym (id_of-key t row ks.new.id.items accepted.new.known),
    was ∙ was_there accepted.changed.1 ks.old accepted.old,
  )

  -- ---- a removal

  abbrev removed : Bytes → Tested Changed
  removed id = needed not_found (row_at t id rows) >>= (λ old. Ok (without_row t id rows, Some old))

  there_by : (o : Option Fields) (found : Option RowKeys) (ks : RowKeys) → AreOldKeys t o found → found ≡ Some ks → (old : Fields) × (o ≡ Some old) × AreKeysOf t old ks
  there_by None found ks none some = absurd (let h = sym none ∙ some in cc)
  there_by (Some r) found ks keys some =
      let same : keys.0 ≡ ks = let h = sym keys.1 ∙ some in cc in
      (r, refl, subst (λ (k : RowKeys). AreKeysOf t r k) same keys.2)

  removed_there : (id : Bytes) (ks : RowKeys) (old : Fields) → id_of t row ≡ Ok id → row_at t id rows ≡ Some old → AreKeysOf t old ks → AreOut stamp ks.indexes.items xs ys → HasChanged t rows [] (remove_row t row rows) stamp xs ys
  removed_there id ks old known there keys out =
      let done : remove_row t row rows ≡ Ok (without_row t id rows, Some old) = goes_on (id_of t row) removed id known ∙ needed_on not_found (row_at t id rows) (λ (o : Fields). let r : Tested Changed = Ok (without_row t id rows, Some o) in r) old there in
      record {
        changed = (without_row t id rows, Some old);
        done = done;
        each = λ at i x y index was now.
            written_in t i rows (without_row t id rows) (old ∷ []) stamp (without_all (full_keys t i old)) (full_keys t i old) x y
            (entries-remove_row t i row rows (without_row t id rows, Some old) seen.lawful (Contains-slice_get t.indexes at i index) done)
            (old_forth t i (Some old)) (old_back t i (Some old))
            (subst (λ (ks : List Bytes). IsEdited stamp (without_all ks) ks x y) (keys_there t old ks keys at i index) (out at x y was now));
      }

  -- a removal of the row of these keys
  pub remove_done : (id : Bytes) (found : Option RowKeys) (ks : RowKeys) → id_of t row ≡ Ok id → AreOldKeys t (row_at t id rows) found → found ≡ Some ks → AreOut stamp ks.indexes.items xs ys
      → HasChanged t rows [] (remove_row t row rows) stamp xs ys × (id ≡ id_key t row)
  remove_done id found ks known olds some out =
      let old = there_by (row_at t id rows) found ks olds some in
      (removed_there id ks old.0 known old.1 old.2 out, sym (id_of-key t row id known))
