-- The first place at which a look-up tells that a key is taken is that of the first index that
-- another row doesn't leave free.
use Rattle.std.proofs.Common.{◌≡◌, ◌∙◌, ◌<◌, ◌≤◌, ◌+◌, ℕ, List, [], ◌∷◌, map, drop, length, get_or, Bool, true, false, not, cond, Option, Some, None, Ok, Err, Contains, refl, sym, ap, subst}
use Rattle.std.specs.Prelude.{if◌then◌else◌, is_some}
use Rattle.std.specs.List.{list_any, enumerate_from, zip}
use Rattle.std.proofs.Math.Bool.{and_comm}
use Rattle.std.proofs.lemmas.List.{drop_more, drop_all, get_or-map, length-map}
use Rattle.mdb_datum.specs.Row.{Fields, Pair}
use Rattle.mdb_encode.specs.Bytes.{Bytes}
use Rattle.mdb_schema.specs.Entries.{entries}
use Rattle.mdb_schema.specs.Schema.{IndexSchema, TableSchema}
use Rattle.mdb_schema.specs.State.{AreLawfulRows, id_key, full_keys, row_at}
use Rattle.mdb_schema.specs.Tests.{◌>>=◌, passed, each}
use Rattle.mdb_schema.specs.Write.{Tested, Placed, is_among, indexes_of, key_taken, is_taken_by, leaves_free}
use Rattle.mdb_schema.specs.Edits.{full_keys_of}
use Rattle.mdb_schema.proofs.EntriesOfRows.{apart_in}
use Rattle.mdb_schema.proofs.FreeKeys.{is_taken_by-stored}
use Rattle.mdb_schema.proofs.Membership.{Contains-first, Contains-later}
use Rattle.mdb_schema.proofs.PassedTests.{goes_on}
use Rattle.radix_node.specs.Pairs.{find}
use Rattle.radix_txn.specs.Txn.{Txn, txn_pairs}
use Rattle.table_index.specs.inner.PutKeys.{first_taken, has_taken, keys_of_each}
use Rattle.table_index.specs.inner.TreeEdits.{NewAndOld}
use Rattle.table_index.proofs.EditSteps.{in_both, both_there, both_end}

-- ---- the walk over the trees

module _ (kss : List NewAndOld) (es : List (List Pair)) (at : ℕ) (ks : NewAndOld) (e : List Pair) where
  -- the look-ups at a place come before those behind it
  looked_at : at < length kss → at < length es → get_or kss at ks ≡ ks → get_or es at e ≡ e
      → first_taken at (drop at kss) (drop at es) ≡ (if has_taken ks e then Some at else first_taken (at + 1) (drop (at + 1) kss) (drop (at + 1) es))
  looked_at in_keys in_trees key tree =
      let keys : drop at kss ≡ ks ∷ drop (at + 1) kss = drop_more kss at ks in_keys ∙ ap (λ x. x ∷ drop (at + 1) kss) key in
      let trees : drop at es ≡ e ∷ drop (at + 1) es = drop_more es at e in_trees ∙ ap (λ x. x ∷ drop (at + 1) es) tree in
      ap (λ (x : List NewAndOld). first_taken at x (drop at es)) keys ∙ ap (λ (x : List (List Pair)). first_taken at (ks ∷ drop (at + 1) kss) x) trees

module _ (new old : List (List Bytes)) (txns : List Txn) (at : ℕ) where
  abbrev places_from : ℕ → Option ℕ
  places_from place = first_taken place (drop place (zip new old)) (drop place (map txn_pairs txns))

  module _ (n o : List Bytes) (x : Txn) (in_new : at < length new) (in_old : at < length old) (in_trees : at < length txns)
      (new_there : get_or new at n ≡ n) (old_there : get_or old at o ≡ o) (tree_there : get_or txns at x ≡ x) where
    looked : places_from at ≡ (if has_taken (n, o) (txn_pairs x) then Some at else places_from (at + 1))
    looked =
        looked_at (zip new old) (map txn_pairs txns) at (n, o) (txn_pairs x) (in_both new old at in_new in_old) (rw length-map in_trees)
        (both_there new old at in_new in_old n o new_there old_there) (get_or-map txn_pairs txns at x (txn_pairs x) in_trees ∙ ap txn_pairs tree_there)

    pub taken_place : has_taken (n, o) (txn_pairs x) ≡ true → places_from at ≡ Some at
    taken_place has = looked ∙ ap (λ (b : Bool). cond b (Some at) (places_from (at + 1))) has

    pub free_place : has_taken (n, o) (txn_pairs x) ≡ false → places_from at ≡ places_from (at + 1)
    free_place has = looked ∙ ap (λ (b : Bool). cond b (Some at) (places_from (at + 1))) has

  pub no_place : length new ≤ at → places_from at ≡ None
  no_place long = ap (λ (x : List NewAndOld). first_taken at x (drop at (map txn_pairs txns))) (drop_all at (zip new old) (both_end new old at long))

-- ---- what the place tells

pub zip_of_maps : {A B : Type 0} (f : IndexSchema → A) (g : IndexSchema → B) (is : List IndexSchema) → zip (map f is) (map g is) ≡ map (λ (i : IndexSchema). (f i, g i)) is
zip_of_maps f g [] = refl
zip_of_maps {A} {B} f g (i ∷ is) = ap (λ (ps : List (A × B)). (f i, g i) ∷ ps) (zip_of_maps f g is)

module _ (t : TableSchema) (row : Fields) (rows : List Fields) (lawful : AreLawfulRows t rows) where
  abbrev new_and_old : IndexSchema → NewAndOld
  new_and_old i = (full_keys t i row, full_keys_of t i (row_at t (id_key t row) rows))

  abbrev entries_in : IndexSchema → List Pair
  entries_in i = entries t i rows

  -- the look-ups in an index tell whether it is left free
  looked_up : (i : IndexSchema) → Contains t.indexes i → list_any (is_taken_by t i (id_key t row) (full_keys t i row)) rows ≡ has_taken (new_and_old i) (entries_in i)
  looked_up i within =
      is_taken_by-stored t i rows (apart_in t i rows lawful within) (id_key t row) lawful.rising (full_keys t i row)
      ∙ (λ j. list_any (λ k. and_comm (is_some (find k (entries_in i))) (not (is_among (new_and_old i).1 k)) j) (full_keys t i row))

  -- these indexes are left free, or the first that isn't has this place
  abbrev pub TellsFree : List Placed → Option ℕ → Type 0
  TellsFree is None = (us : List (Unit {0})) × (each (leaves_free t row rows) is ≡ Ok us)
  TellsFree is (Some place) = each (leaves_free t row rows) is ≡ Err (key_taken place)

  abbrev rest_of : List Placed → Unit {0} → Tested (List (Unit {0}))
  rest_of is u = each (leaves_free t row rows) is >>= (λ us. Ok (u ∷ us))

  -- one more index before these that is left free
  one_more : (p : Placed) (is : List Placed) (o : Option ℕ) → leaves_free t row rows p ≡ Ok tt → TellsFree is o → TellsFree (p ∷ is) o
  one_more p is None free later = (
    tt ∷ later.0,
    goes_on (leaves_free t row rows p) (rest_of is) tt free ∙ goes_on (each (leaves_free t row rows) is) (λ us. let r : Tested (List (Unit {0})) = Ok (tt ∷ us) in r) later.0 later.1,
  )
  one_more p is (Some place) free later =
      goes_on (leaves_free t row rows p) (rest_of is) tt free
      ∙ ap (λ (r : Tested (List (Unit {0}))). r >>= (λ us. let q : Tested (List (Unit {0})) = Ok (tt ∷ us) in q)) later

  told_from : (place : ℕ) (is : List IndexSchema) → ((i : IndexSchema) → Contains is i → Contains t.indexes i)
      → TellsFree (enumerate_from place is) (first_taken place (map new_and_old is) (map entries_in is))
  told_from place [] within = ([], refl)
  told_from place (i ∷ is) within =
      of (has_taken (new_and_old i) (entries_in i)) (looked_up i (within i (Contains-first i is))) (told_from (place + 1) is (λ k h. within k (Contains-later i is k h)))
    where
      of : (b : Bool) → list_any (is_taken_by t i (id_key t row) (full_keys t i row)) rows ≡ b
          → TellsFree (enumerate_from (place + 1) is) (first_taken (place + 1) (map new_and_old is) (map entries_in is))
          → TellsFree ((place, i) ∷ enumerate_from (place + 1) is) (if b then Some place else first_taken (place + 1) (map new_and_old is) (map entries_in is))
      of true taken later =
          ap (λ (b : Bool). let r : Tested (Unit {0}) = passed (key_taken place) (not b) in r >>= rest_of (enumerate_from (place + 1) is)) taken
      of false free later =
          one_more (place, i) (enumerate_from (place + 1) is) (first_taken (place + 1) (map new_and_old is) (map entries_in is))
          (ap (λ (b : Bool). let r : Tested (Unit {0}) = passed (key_taken place) (not b) in r) free) later

  pub free_told : (new old : List (List Bytes)) (es : List (List Pair)) → new ≡ keys_of_each t (Some row) → old ≡ keys_of_each t (row_at t (id_key t row) rows) → es ≡ map entries_in t.indexes
      → TellsFree (indexes_of t) (first_taken 0 (zip new old) es)
  free_told new old es all_new all_old all_entries =
      let both : zip new old ≡ zip (keys_of_each t (Some row)) (keys_of_each t (row_at t (id_key t row) rows)) = λ j. zip (all_new j) (all_old j) in
      let keys : zip new old ≡ map new_and_old t.indexes =
      both ∙ zip_of_maps (λ (i : IndexSchema). full_keys t i row) (λ (i : IndexSchema). full_keys_of t i (row_at t (id_key t row) rows)) t.indexes in
      let same : first_taken 0 (map new_and_old t.indexes) (map entries_in t.indexes) ≡ first_taken 0 (zip new old) es =
      sym (ap (λ (kss : List NewAndOld). first_taken 0 kss es) keys ∙ ap (first_taken 0 (map new_and_old t.indexes)) all_entries) in
      subst (λ (o : Option ℕ). TellsFree (indexes_of t) o) same (told_from 0 t.indexes (λ i h. h))
