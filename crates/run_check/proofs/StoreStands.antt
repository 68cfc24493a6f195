-- What a store stands for at the start, and after writes.
use Rattle.std.proofs.Common.{◌≡◌, ◌∙◌, ◌+◌, ◌<◌, ◌++◌, ℕ, zero, suc, List, [], ◌∷◌, length, map, take, Option, Some, None, Contains, arith, refl, sym, ap, subst}
use Rattle.std.specs.Prelude.{◌-◌, option_map, slice_get, unwrap_or}
use Rattle.std.specs.declared.alloc.Global.{Global}
use Rattle.std.specs.declared.vec.Vec.{Vec}
use Rattle.std.proofs.lemmas.List.{map-append}
use Rattle.mdb_datum.specs.Bytes.{Bytes}
use Rattle.mdb_datum.specs.Row.{Fields}
use Rattle.mdb_schema.specs.Entries.{entries}
use Rattle.mdb_schema.specs.History.{Commit, after_commits, after_writes, state_at}
use Rattle.mdb_schema.specs.Schema.{DbSchema, IndexSchema, TableSchema}
use Rattle.mdb_schema.specs.State.{State, empty_state}
use Rattle.run_check.specs.declared.sight.Own.{Own}
use Rattle.run_check.specs.declared.sight.Sight.{Sight}
use Rattle.run_check.specs.declared.store.Store as store
use Rattle.run_check.specs.inner.StoreView.{IsIndexOf, StandsFor, Wrote, empty_indexes, first_writes, indexes_at, indexes_of, state_seen}
use Rattle.run_check.specs.inner.IndexView.{KeyVersions, no_keys}

-- one more of a list, by its place
pub take_one : {A : Type 0} (xs : List A) (n : ℕ) (x : A) → slice_get xs n ≡ Some x → take (suc n) xs ≡ take n xs ++ x ∷ []
take_one [] n x h = absurd (none h)
  where
    none : None ≡ Some x → ⊥
    none e = cc
take_one (y ∷ xs) zero x h = ap (λ z. z ∷ []) same
  where
    same : y ≡ x
    same = cc
take_one (y ∷ xs) (suc n) x h = ap (λ zs. y ∷ zs) (take_one xs n x h)

pub there_at : {A : Type 0} (xs : List A) (n : ℕ) → n < length xs → (x : A) × (slice_get xs n ≡ Some x)
there_at [] n lt = absurd (omega arith)
there_at (x ∷ xs) zero lt = (x, refl)
there_at (x ∷ xs) (suc n) lt = there_at xs n (omega arith)

pub map_take_one : {A B : Type 0} (f : A → B) (xs : List A) (n : ℕ) (x : A) → slice_get xs n ≡ Some x → map f (take (suc n) xs) ≡ map f (take n xs) ++ f x ∷ []
map_take_one f xs n x h = ap (map f) (take_one xs n x h) ∙ map-append f (take n xs) (x ∷ [])

pub length_push : {A : Type 0} (ys : List A) (y : A) → length (ys ++ y ∷ []) ≡ suc (length ys)
length_push [] y = refl
length_push (z ∷ ys) y = ap suc (length_push ys y)

-- empty indexes, one more
pub empties_more : (is : List IndexSchema) (made more : List KeyVersions) (x : KeyVersions) → made ≡ map (λ i. no_keys) (take (length made) is) → length made < length is
    → x ≡ no_keys → more ≡ made ++ x ∷ [] → more ≡ map (λ i. no_keys) (take (length more) is)
empties_more is made more x all lt new pushed =
    let w = there_at is (length made) lt in
    pushed ∙ ap (λ y. made ++ y ∷ []) new ∙ ap (λ ys. ys ++ no_keys ∷ []) all
    ∙ sym (map_take_one (λ i. no_keys) is (length made) w.0 w.1)
    ∙ ap (λ n. map (λ i. no_keys) (take n is)) (sym (ap (λ ys. length ys) pushed ∙ length_push made x))

abbrev Tables : Type 0
Tables = List (Vec KeyVersions Global)

abbrev lists : Tables → List (List KeyVersions)
lists tables = map (λ (v : Vec KeyVersions Global). v.items) tables

pub tables_more : (schema : DbSchema) (made more : Tables) (v : Vec KeyVersions Global) (n : ℕ) (t : TableSchema) → lists made ≡ map empty_indexes (take n schema)
    → more ≡ made ++ v ∷ [] → v.items ≡ empty_indexes t → slice_get schema n ≡ Some t → lists more ≡ map empty_indexes (take (n + 1) schema)
tables_more schema made more v n t all pushed new at =
    let next : n + 1 ≡ suc n = omega arith in
    ap lists pushed ∙ map-append (λ (v : Vec KeyVersions Global). v.items) made (v ∷ [])
    ∙ ap (λ ys. ys ++ v.items ∷ []) all ∙ ap (λ is. map empty_indexes (take n schema) ++ is ∷ []) new
    ∙ sym (ap (λ m. map empty_indexes (take m schema)) next ∙ map_take_one empty_indexes schema n t at)

-- ---- at the start

get_map : {A B : Type 0} (f : A → B) (xs : List A) (n : ℕ) → slice_get (map f xs) n ≡ option_map f (slice_get xs n)
get_map f [] n = refl
get_map f (x ∷ xs) zero = refl
get_map f (x ∷ xs) (suc n) = get_map f xs n

length_map : {A B : Type 0} (f : A → B) (xs : List A) → length (map f xs) ≡ length xs
length_map f [] = refl
length_map f (x ∷ xs) = ap suc (length_map f xs)

same_some : {A : Type 0} (x y : A) → Some x ≡ Some y → x ≡ y
same_some x y e = ap (λ o. unwrap_or o x) e

nothing_there : {A : Type 0} (n : ℕ) (x : A) → slice_get [] n ≡ Some x → ⊥
nothing_there n x e = cc

none_in : {A : Type 0} (x : A) → Contains [] x → ⊥
none_in x c = absurd (omega (arith, c.1))

nothing_wrote : (schema : DbSchema) (t : TableSchema) (i : IndexSchema) (j : ℕ) (key : Bytes) → Wrote schema [] t i j key → ⊥
nothing_wrote schema t i j key (low, c, at, touch) = nothing_there (j - 1) c at

nothing_indexed : (schema : DbSchema) (place : ℕ) (t : TableSchema) (i : IndexSchema) → IsIndexOf schema [] [] place t i no_keys
nothing_indexed schema place t i = record {
  seen = λ s rows is at. sym (ap (entries t i) (empty s rows at));
  written = λ key j. ((λ h. absurd (none_in _ h.1)), (λ h. absurd (nothing_wrote schema t i j key h)));
  own = λ key o h. absurd (none_in _ h.1);
  touched = λ j. ((λ h. absurd (none_in j h)), (λ h. absurd (nothing_wrote schema t i j h.0 h.1)));
}
  where
    none_taken : (n : ℕ) → take {A = Commit} n [] ≡ []
    none_taken zero = refl
    none_taken (suc n) = refl

    no_writes : (o : Option Own) → first_writes [] o ≡ []
    no_writes None = refl
    no_writes (Some own) = refl

    no_rows : (schema : DbSchema) (n : ℕ) (rows : List Fields) → slice_get (empty_state schema) n ≡ Some rows → rows ≡ []
    no_rows [] n rows e = absurd (nothing_there n rows e)
    no_rows (t ∷ ts) zero rows e = sym (same_some [] rows e)
    no_rows (t ∷ ts) (suc n) rows e = no_rows ts n rows e

    empty : (s : Sight) (rows : List Fields) → slice_get (state_seen schema [] [] s) place ≡ Some rows → rows ≡ []
    empty s rows at = no_rows schema place rows (ap (λ (state : State). slice_get state place) (sym start) ∙ at)
      where
        start : state_seen schema [] [] s ≡ empty_state schema
        start =
            ap (after_writes schema (state_at schema [] s.commits)) (no_writes s.own)
            ∙ ap (after_commits schema (empty_state schema)) (none_taken s.commits)

abbrev items_at : Option (Vec KeyVersions Global) → List KeyVersions
items_at None = []
items_at (Some v) = v.items

indexes_from : (st : store.Store) (place : ℕ) (is : List KeyVersions) → slice_get (indexes_of st) place ≡ Some is → indexes_at st place ≡ is
indexes_from st place is h =
    of (slice_get st.tables.items place) (sym (get_map (λ (v : Vec KeyVersions Global). v.items) st.tables.items place) ∙ h)
  where
    of : (o : Option (Vec KeyVersions Global)) → option_map (λ (v : Vec KeyVersions Global). v.items) o ≡ Some is → items_at o ≡ is
    of None e = absurd (none e)
      where
        none : None ≡ Some is → ⊥
        none e = cc
    of (Some v) e = same_some v.items is e

pub stands_at_start : (schema : DbSchema) (st : store.Store) → indexes_of st ≡ map empty_indexes schema → StandsFor schema [] [] st
stands_at_start schema st is = record {
  tables = sym (length_map _ st.tables.items) ∙ ap (λ ys. length ys) is ∙ length_map empty_indexes schema;
  indexes = λ place t at. ap (λ ys. length ys) (all place t at) ∙ length_map (λ i. no_keys) t.indexes;
  each = λ place at t i x is_table is_index there. subst (λ y. IsIndexOf schema [] [] place t i y) (one place at t i x is_table is_index there) (nothing_indexed schema place t i);
}
  where
    all : (place : ℕ) (t : TableSchema) → slice_get schema place ≡ Some t → indexes_at st place ≡ empty_indexes t
    all place t at = indexes_from st place (empty_indexes t) (ap (λ ys. slice_get ys place) is ∙ get_map empty_indexes schema place ∙ ap (option_map empty_indexes) at)

    one : (place at : ℕ) (t : TableSchema) (i : IndexSchema) (x : KeyVersions) → slice_get schema place ≡ Some t → slice_get t.indexes at ≡ Some i
        → slice_get (indexes_at st place) at ≡ Some x → no_keys ≡ x
    one place at t i x is_table is_index there =
        same_some no_keys x (sym (get_map (λ i. no_keys) t.indexes at ∙ ap (option_map (λ i. no_keys)) is_index)
        ∙ ap (λ ys. slice_get ys at) (sym (all place t is_table)) ∙ there)
