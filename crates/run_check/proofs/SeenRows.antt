-- Rows that the indexes of a table show: look-ups by `id` key, and the keys of a row that is there.
use Rattle.std.proofs.Common.{◌≡◌, ◌<◌, ◌∙◌, ℕ, List, [], map, length, get_or, slice_get, codes, Option, Some, None, option_map, unwrap_or, Ok, Err, refl, sym, ap, subst, inl, inr, arith}
use Rattle.std.specs.FinMap as finite
use Rattle.std.specs.declared.alloc.Global.{Global}
use Rattle.std.specs.declared.vec.Vec.{Vec}
use Rattle.std.proofs.lemmas.List.{length-map}
use Rattle.std.proofs.lemmas.Option.{slice_get-map, slice_get-get_or}
use Rattle.mdb_datum.specs.Bytes.{Bytes, byte_order}
use Rattle.mdb_datum.specs.Row.{Fields, Pair}
use Rattle.mdb_datum.proofs.ListPlaces.{there_within}
use Rattle.mdb_schema.specs.Edits.{full_keys_of}
use Rattle.mdb_schema.specs.Entries.{entries}
use Rattle.mdb_schema.specs.LawfulSchema.{IsLawfulTable}
use Rattle.mdb_schema.specs.Schema.{IndexSchema, TableSchema, index_place}
use Rattle.mdb_schema.specs.State.{full_keys, id_key, row_at}
use Rattle.mdb_schema.specs.Tests.{each}
use Rattle.mdb_schema.specs.Write.{id_of, indexes_of, takes}
use Rattle.mdb_schema.proofs.IdEntries.{row_at-entries}
use Rattle.mdb_schema.proofs.IdKeys.{id_index, id_of-taken}
use Rattle.mdb_schema.proofs.PassedTests.{goes_on}
use Rattle.mdb_schema.proofs.RowsById.{row_at-some}
use Rattle.mdb_schema.proofs.WriteTests.{each_takes-from}
use Rattle.mdb_schema.specs.declared.write_error.WriteError.{WriteError}
use Rattle.mdb_schema.specs.declared.write_error.WriteError.TheVariants.{Memory}
use Rattle.mdb_schema.specs.ErrorsTold.{TellsRefusal}
use Rattle.run_check.specs.declared.keys.RowKeys.{RowKeys}
use Rattle.run_check.specs.declared.sight.Sight.{Sight}
use Rattle.run_check.specs.inner.EditView.{AnswersOldKeys, AreOldKeys, AreSeen, is_taken, is_taken_at, keys_in, old_lists, seen_of}
use Rattle.run_check.specs.inner.IndexView.{KeyVersions}
use Rattle.run_check.specs.inner.KeyView.{AreKeysOf, row_tests}

-- what stands at a place of a list of maps
pub at_map : {A B : Type 0} (f : A → B) (xs : List A) (at : ℕ) (x : A) (d : B) → slice_get xs at ≡ Some x → unwrap_or (slice_get (map f xs) at) d ≡ f x
at_map {A} {B} f xs at x d there = ap (λ (o : Option B). unwrap_or o d) (slice_get-map f xs at ∙ ap (option_map f) there)

module _ (t : TableSchema) (rows : List Fields) (s : Sight) (xs : List KeyVersions) (seen : AreSeen t rows s xs) where
  -- an index has the entries of the rows
  pub seen_entries : (at : ℕ) (i : IndexSchema) (x : KeyVersions) → slice_get t.indexes at ≡ Some i → slice_get xs at ≡ Some x → seen_of s x ≡ entries t i rows
  seen_entries at i x index there =
      let found : Some (seen_of s x) ≡ Some (entries t i rows) =
      sym (slice_get-map (seen_of s) xs at ∙ ap (option_map (seen_of s)) there)
      ∙ ap (λ (es : List (List Pair)). slice_get es at) seen.held
      ∙ slice_get-map (λ (j : IndexSchema). entries t j rows) t.indexes at ∙ ap (option_map (λ (j : IndexSchema). entries t j rows)) index in
      cc

  -- there are as many as indexes
  pub as_many : length xs ≡ length t.indexes
  as_many =
      sym (length-map xs (seen_of s)) ∙ ap (λ (es : List (List Pair)). length es) seen.held ∙ length-map t.indexes (λ (j : IndexSchema). entries t j rows)

  pub no_index : (at : ℕ) → at < length t.indexes → slice_get xs at ≡ None → ⊥
  no_index at within none =
      let there = there_within xs at (omega (arith, within, as_many)) in
      let is = there.1 in cc

  module _ (table : IsLawfulTable t) where
    -- the row under an `id` key
    pub found_row : (place : ℕ) (x : KeyVersions) (id : Bytes) → Some place ≡ index_place (codes "id") t.indexes → slice_get xs place ≡ Some x → finite.find byte_order id (seen_of s x) ≡ row_at t id rows
    found_row place x id placed there =
        let at = id_index t table in
        let placed_there = at.placed in
        let same : at.place ≡ place = let h = placed ∙ placed_there in cc in
        ap (finite.find byte_order id) (seen_entries place at.index x (ap (slice_get t.indexes) (sym same) ∙ at.there) there)
        ∙ sym (row_at-entries t at id rows seen.lawful)

    -- a row that is there passes the tests of its keys
    pub stored_passes : (id : Bytes) (row : Fields) → row_at t id rows ≡ Some row → (us : List (Unit {0})) × (row_tests t row ≡ Ok us)
    stored_passes id row there =
        let at = id_index t table in
        let w = row_at-some t id rows row there in
        let taken = each_takes-from t row (λ i h. seen.lawful.taken i row h w.0) in (
          taken.0,
          goes_on (id_of t row) (λ (k : Bytes). each (takes row) (indexes_of t)) (id_key t row) (id_of-taken t at row (seen.lawful.taken at.index row at.within w.0)) ∙ taken.1,
        )

    pub no_refusal : (id : Bytes) (row : Fields) (e : WriteError) → row_at t id rows ≡ Some row → TellsRefusal (row_tests t row) e → e ≡ Memory
    no_refusal id row e there told = elim told [
      | inl memory ↦ memory
      | inr why ↦ let passes = (stored_passes id row there).1 in let refuses = why.1 in absurd (let h = sym passes ∙ refuses in cc)
    ]

    pub old_found : (id : Bytes) (row : Fields) (ks : RowKeys) → row_at t id rows ≡ Some row → AreKeysOf t row ks → AreOldKeys t (row_at t id rows) (Some ks)
    old_found id row ks there keys = subst (λ (o : Option Fields). AreOldKeys t o (Some ks)) (sym there) (ks, refl, keys)

    pub old_memory : (id : Bytes) (row : Fields) (e : WriteError) → row_at t id rows ≡ Some row → TellsRefusal (row_tests t row) e → AnswersOldKeys t (row_at t id rows) (Err e)
    old_memory id row e there told = no_refusal id row e there told

  pub old_none : (id : Bytes) → row_at t id rows ≡ None → AreOldKeys t (row_at t id rows) None
  old_none id none = subst (λ (o : Option Fields). AreOldKeys t o None) (sym none) refl

-- ---- keys by places

pub keys_there : (t : TableSchema) (row : Fields) (ks : RowKeys) → AreKeysOf t row ks → (at : ℕ) (i : IndexSchema) → slice_get t.indexes at ≡ Some i → keys_in ks.indexes.items at ≡ full_keys t i row
keys_there t row ks keys at i index =
    ap (λ (kss : List (List Bytes)). unwrap_or (slice_get kss at) []) keys.indexes
    ∙ at_map (λ (j : IndexSchema). full_keys t j row) t.indexes at i [] index

pub old_keys_there : (t : TableSchema) (old : Option Fields) (found : Option RowKeys) → AreOldKeys t old found → (at : ℕ) (i : IndexSchema) → slice_get t.indexes at ≡ Some i → keys_in (old_lists found) at ≡ full_keys_of t i old
old_keys_there t None found none at i index = ap (λ (o : Option RowKeys). keys_in (old_lists o) at) none
old_keys_there t (Some row) found some at i index = ap (λ (o : Option RowKeys). keys_in (old_lists o) at) some.1 ∙ keys_there t row some.0 some.2 at i index

pub taken_here : (s : Sight) (new old : List (Vec (Vec ℕ Global) Global)) (xs : List KeyVersions) (at : ℕ) (x : KeyVersions) (ns os : List Bytes) → at < length xs → x ≡ get_or xs at x → ns ≡ keys_in new at → os ≡ keys_in old at
    → is_taken ns os (seen_of s x) ≡ is_taken_at s new old xs at
taken_here s new old xs at x ns os within is news olds =
    let there : slice_get xs at ≡ Some x = slice_get-get_or xs at x within ∙ ap Some (sym is) in
    λ j. is_taken (news j) (olds j) (sym (at_map (seen_of s) xs at x [] there) j)
