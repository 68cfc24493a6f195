-- What a put and a removal are told, of their tests.
use Rattle.std.proofs.Common.{◌≡◌, ◌<◌, ◌∙◌, ℕ, zero, suc, List, [], ◌∷◌, Bool, not, length, slice_get, Option, Some, None, Ok, Err, refl, sym, ap, inl, inr, arith}
use Rattle.std.specs.List.{enumerate_from, list_any}
use Rattle.std.proofs.lemmas.Option.{slice_get_within}
use Rattle.mdb_datum.specs.Bytes.{Bytes}
use Rattle.mdb_datum.specs.Row.{Fields}
use Rattle.mdb_datum.proofs.ListPlaces.{there_within}
use Rattle.mdb_schema.specs.Edits.{full_keys_of}
use Rattle.mdb_schema.specs.Entries.{entries}
use Rattle.mdb_schema.specs.Schema.{IndexSchema, TableSchema}
use Rattle.mdb_schema.specs.State.{AreLawfulRows, full_keys, id_key, row_at, with_row}
use Rattle.mdb_schema.specs.Tests.{◌>>=◌, each, passed}
use Rattle.mdb_schema.specs.Write.{Changed, Placed, Tested, WriteRefusal, id_of, indexes_of, is_taken_by, key_taken, leaves_free, put_row, takes}
use Rattle.mdb_schema.proofs.EntriesOfRows.{apart_in}
use Rattle.mdb_schema.proofs.FreeKeys.{is_taken_by-stored}
use Rattle.mdb_schema.proofs.IdKeys.{id_of-key}
use Rattle.mdb_schema.proofs.Membership.{Contains-slice_get}
use Rattle.mdb_schema.proofs.PassedTests.{goes_on}
use Rattle.mdb_schema.specs.declared.write_error.WriteError.{WriteError}
use Rattle.mdb_schema.specs.declared.write_error.WriteError.TheVariants.{KeyTaken}
use Rattle.mdb_schema.specs.ErrorsTold.{TellsRefusal}
use Rattle.mdb_schema.proofs.IndexPlaces.{length_placed, placed_at}
use Rattle.run_check.specs.declared.keys.RowKeys.{RowKeys}
use Rattle.run_check.specs.declared.sight.Sight.{Sight}
use Rattle.run_check.specs.inner.EditView.{AreOldKeys, AreSeen, IsAccepted, IsFirst, is_taken, is_taken_at, old_lists, seen_of}
use Rattle.run_check.specs.inner.IndexView.{KeyVersions}
use Rattle.run_check.specs.inner.KeyView.{AreKeysOf, row_tests}
use Rattle.run_check.proofs.SeenRows.{as_many, at_map, keys_there, old_keys_there, seen_entries}

-- ---- a list of tests

module _ {A : Type 0} (f : A → Tested (Unit {0})) where
  abbrev rest_of : List A → Unit {0} → Tested (List (Unit {0}))
  rest_of xs u = each f xs >>= (λ us. Ok (u ∷ us))

  -- each passes
  all_pass : (xs : List A) → ((k : ℕ) (x : A) → slice_get xs k ≡ Some x → f x ≡ Ok tt) → (us : List (Unit {0})) × (each f xs ≡ Ok us)
  all_pass [] pass = ([], refl)
  all_pass (x ∷ xs) pass =
      let rest = all_pass xs (λ k y there. pass (suc k) y there) in (
        tt ∷ rest.0,
        goes_on (f x) (rest_of xs) tt (pass 0 x refl) ∙ goes_on (each f xs) (λ us. let r : Tested (List (Unit {0})) = Ok (tt ∷ us) in r) rest.0 rest.1,
      )

  -- the first that doesn't pass
  first_fails : (xs : List A) (at : ℕ) (x : A) (why : WriteRefusal) → slice_get xs at ≡ Some x → f x ≡ Err why → ((k : ℕ) (y : A) → k < at → slice_get xs k ≡ Some y → f y ≡ Ok tt) → each f xs ≡ Err why
  first_fails [] at x why there fails pass = cc
  first_fails (y ∷ xs) zero x why there fails pass =
      let same : y ≡ x = cc in
      ap (λ (z : A). f z >>= rest_of xs) same ∙ ap (λ (r : Tested (Unit {0})). r >>= rest_of xs) fails
  first_fails (y ∷ xs) (suc at) x why there fails pass =
      goes_on (f y) (rest_of xs) tt (pass 0 y (omega arith) refl)
      ∙ ap (λ (r : Tested (List (Unit {0}))). r >>= (λ us. let q : Tested (List (Unit {0})) = Ok (tt ∷ us) in q))
      (first_fails xs at x why there fails (λ k z below there. pass (suc k) z (omega (arith, below)) there))

-- an index with its place, by the place
at_its_place : (is : List IndexSchema) (k : ℕ) (p : Placed) → slice_get (enumerate_from 0 is) k ≡ Some p → (i : IndexSchema) × (slice_get is k ≡ Some i) × ((k, i) ≡ p)
at_its_place is k p there =
    let within = slice_get_within (enumerate_from 0 is) k p there in
    let index = there_within is k (omega (arith, within, length_placed 0 is)) in
    let placed = placed_at is k index.0 index.1 in
    let same : (k, index.0) ≡ p = let h = sym placed ∙ there in cc in
    (index.0, index.1, same)

-- ---- a test that fails, with others behind it

behind_it : {A B C : Type 0} (r : Tested A) (f : A → Tested B) (g : A → B → Tested C) (why : WriteRefusal) → (r >>= f) ≡ Err why → (r >>= (λ a. f a >>= g a)) ≡ Err why
behind_it {A} {B} {C} (Err w) f g why fails = let same : w ≡ why = cc in ap (λ (x : WriteRefusal). let r : Tested C = Err x in r) same
behind_it {A} {B} {C} (Ok a) f g why fails = ap (λ (r : Tested B). r >>= g a) fails

module _ (t : TableSchema) (row : Fields) (rows : List Fields) where
  abbrev after_takes : Bytes → Tested Changed
  after_takes id = each (leaves_free t row rows) (indexes_of t) >>= (λ free. Ok (with_row t row rows, row_at t id rows))

  -- a row that breaks a rule by itself
  pub put_refused : (e : WriteError) → TellsRefusal (row_tests t row) e → TellsRefusal (put_row t row rows) e
  put_refused e told = elim told [
    | inl memory ↦ inl memory
    | inr why ↦ inr (why.0, behind_it (id_of t row) (λ (id : Bytes). each (takes row) (indexes_of t)) (λ id taken. after_takes id) why.0 why.1, why.2)
  ]

  module _ (lawful : AreLawfulRows t rows) where
    -- the look-ups in an index tell whether it is left free
    looked_up : (at : ℕ) (i : IndexSchema) → slice_get t.indexes at ≡ Some i
        → list_any (is_taken_by t i (id_key t row) (full_keys t i row)) rows ≡ is_taken (full_keys t i row) (full_keys_of t i (row_at t (id_key t row) rows)) (entries t i rows)
    looked_up at i there = is_taken_by-stored t i rows (apart_in t i rows lawful (Contains-slice_get t.indexes at i there)) (id_key t row) lawful.rising (full_keys t i row)

  module _ (s : Sight) (xs : List KeyVersions) (seen : AreSeen t rows s xs) (new : RowKeys) (keys : AreKeysOf t row new) (old : Option RowKeys) (olds : AreOldKeys t (row_at t new.id.items rows) old) where
    abbrev test : ℕ → Bool
    test at = is_taken_at s new.indexes.items (old_lists old) xs at

    id : id_key t row ≡ new.id.items
    id = id_of-key t row new.id.items keys.known

    tested_at : (at : ℕ) (i : IndexSchema) → slice_get t.indexes at ≡ Some i → list_any (is_taken_by t i (id_key t row) (full_keys t i row)) rows ≡ test at
    tested_at at i there =
        let x = there_within xs at (omega (arith, as_many t rows s xs seen, slice_get_within t.indexes at i there)) in
        looked_up seen.lawful at i there
        ∙ (λ j. is_taken (sym (keys_there t row new keys at i there) j)
        (sym (old_keys_there t (row_at t new.id.items rows) old olds at i there ∙ ap (λ (k : Bytes). full_keys_of t i (row_at t k rows)) (sym id)) j)
        (sym (at_map (seen_of s) xs at x.0 [] x.1 ∙ seen_entries t rows s xs seen at i x.0 there x.1) j))

    free_at : (k : ℕ) (p : Placed) → slice_get (indexes_of t) k ≡ Some p → leaves_free t row rows p ≡ passed (key_taken k) (not (test k))
    free_at k p there =
        let w = at_its_place t.indexes k p there in
        sym (ap (leaves_free t row rows) w.2) ∙ ap (λ (b : Bool). passed (key_taken k) (not b)) (tested_at k w.0 w.1)

    tested : put_row t row rows ≡ after_takes new.id.items
    tested =
        goes_on (id_of t row) (λ (k : Bytes). each (takes row) (indexes_of t) >>= (λ taken. after_takes k)) new.id.items keys.known
        ∙ goes_on (each (takes row) (indexes_of t)) (λ taken. after_takes new.id.items) keys.taken keys.passes

    pub key_is_taken : (at : ℕ) → IsFirst test (length xs) (Some at) → TellsRefusal (put_row t row rows) (KeyTaken at)
    key_is_taken at first =
        let index = there_within t.indexes at (omega (arith, first.0, as_many t rows s xs seen)) in
        let there = placed_at t.indexes at index.0 index.1 in
        let fails : each (leaves_free t row rows) (indexes_of t) ≡ Err (key_taken at) =
        first_fails (leaves_free t row rows) (indexes_of t) at (at, index.0) (key_taken at) there
        (free_at at (at, index.0) there ∙ ap (λ (b : Bool). passed (key_taken at) (not b)) first.1)
        (λ k p below there. free_at k p there ∙ ap (λ (b : Bool). passed (key_taken k) (not b)) (first.2 k below)) in
        inr (key_taken at, tested ∙ ap (λ (r : Tested (List (Unit {0}))). r >>= (λ free. let q : Tested Changed = Ok (with_row t row rows, row_at t new.id.items rows) in q)) fails, refl)

    pub accepted : IsFirst test (length xs) None → IsAccepted t row rows (record { new = new; old = old })
    accepted none =
        let free = all_pass (leaves_free t row rows) (indexes_of t)
        (λ k p there. free_at k p there ∙ ap (λ (b : Bool). passed (key_taken k) (not b)) (none k (omega (arith, slice_get_within (indexes_of t) k p there, length_placed 0 t.indexes, as_many t rows s xs seen)))) in
        record {
          changed = (with_row t row rows, row_at t new.id.items rows);
          done = tested ∙ goes_on (each (leaves_free t row rows) (indexes_of t)) (λ f. let q : Tested Changed = Ok (with_row t row rows, row_at t new.id.items rows) in q) free.0 free.1;
          new = keys;
          old = olds;
        }
