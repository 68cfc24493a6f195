-- A store stands for one write more.
use Rattle.std.proofs.Common.{◌≡◌, ◌≢◌, ◌<◌, ◌≤◌, ◌∙◌, ◌++◌, ℕ, List, [], Bool, true, false, Option, Some, None, Ok, length, nat_eq, nat_lt, get_or, slice_get, slice_set, refl, sym, ap, subst, arith}
use Rattle.std.specs.Prelude.{if◌then◌else◌, option_to_list}
use Rattle.std.specs.Str.{bytes_eq}
use Rattle.std.proofs.lemmas.Bool.Decides.{nat_tests}
use Rattle.std.proofs.lemmas.List.{length-map}
use Rattle.std.proofs.lemmas.Map.Keys.{Less-from_sorted}
use Rattle.std.proofs.lemmas.Option.{get_or_from_slice_get, slice_get-map, slice_get_within}
use Rattle.mdb_datum.specs.Bytes.{Bytes, byte_order}
use Rattle.mdb_datum.specs.Row.{Fields}
use Rattle.mdb_datum.proofs.ListPlaces.{there_within}
use Rattle.mdb_schema.specs.History.{History, state_or}
use Rattle.mdb_schema.specs.LawfulSchema.{IsLawfulSchema, table_names}
use Rattle.mdb_schema.specs.Schema.{DbSchema, IndexSchema, TableSchema, table_place}
use Rattle.mdb_schema.specs.State.{State, Table, table_at}
use Rattle.mdb_schema.specs.Tests.{◌>>=◌, needed}
use Rattle.mdb_schema.specs.Touched.{row_put, rows_of_step}
use Rattle.mdb_schema.specs.Write.{Changed, Stepped, Tested, Write, put, put_row, remove, remove_row, step, table_of, unknown_table}
use Rattle.mdb_schema.proofs.Membership.{bytes_eq-comm, bytes_eq-itself}
use Rattle.mdb_schema.proofs.RowsById.{apart_from_less}
use Rattle.mdb_schema.proofs.Tables.{slice_get-set_other, slice_get-set_same, table_at-some}
use Rattle.run_check.specs.declared.sight.Stamp.{Stamp}
use Rattle.run_check.specs.declared.store.Store.{Store}
use Rattle.run_check.specs.inner.EditView.{HasChanged, IsWrittenIn}
use Rattle.run_check.specs.inner.GrowView.{IsGrown, IsWrittenAt, rows_touched, stepped_by}
use Rattle.run_check.specs.inner.IndexView.{KeyVersions}
use Rattle.run_check.specs.inner.StoreView.{Begun, IsIndexOf, StandsFor, indexes_at}
use Rattle.run_check.proofs.IndexGrows.{index_grows, nothing_written}

-- ---- names of tables

name_at : (schema : DbSchema) (place : ℕ) (t : TableSchema) (d : Bytes) → slice_get schema place ≡ Some t → get_or (table_names schema) place d ≡ t.name
name_at schema place t d there =
    get_or_from_slice_get (table_names schema) place t.name d
    (slice_get-map (λ (u : TableSchema). u.name) schema place ∙ ap (λ (o : Option TableSchema). elim o as (λ x. Option Bytes) [ None ↦ None | Some u ↦ Some u.name ]) there)

-- tables at two places have two names
names_apart : (schema : DbSchema) → IsLawfulSchema schema → (p q : ℕ) (t u : TableSchema) → slice_get schema p ≡ Some t → slice_get schema q ≡ Some u → p < q → bytes_eq t.name u.name ≡ false
names_apart schema lawful p q t u there there' below =
    let within : q < length (table_names schema) = omega (arith, slice_get_within schema q u there', length-map schema (λ (v : TableSchema). v.name)) in
    let less = Less-from_sorted byte_order (table_names schema) p q [] lawful.order below within in
    apart_from_less t.name u.name
    ((λ j. byte_order (sym (name_at schema p t [] there) j) (sym (name_at schema q u [] there') j)) ∙ less)

other_name : (schema : DbSchema) → IsLawfulSchema schema → (p q : ℕ) (t u : TableSchema) → slice_get schema p ≡ Some t → slice_get schema q ≡ Some u → q ≢ p → bytes_eq t.name u.name ≡ false
other_name schema lawful p q t u there there' apart = of (nat_lt p q) refl
  where
    of : (b : Bool) → nat_lt p q ≡ b → bytes_eq t.name u.name ≡ false
    of true e = let below : p < q = grind (arith, nat_tests) in names_apart schema lawful p q t u there there' below
    of false e =
        let above : q ≤ p = grind (arith, nat_tests) in
        let below : q < p = omega (arith, above, apart) in
        bytes_eq-comm u.name t.name false (names_apart schema lawful q p u t there' there below)

-- ---- the step of a write

module _ (schema : DbSchema) (base : State) (place : ℕ) (t : TableSchema) (rows : List Fields) (name : Bytes)
    (named : table_place name schema ≡ Some place) (there : slice_get schema place ≡ Some t) (held : slice_get base place ≡ Some rows) where
  abbrev table : Table
  table = record { place = place; schema = t; rows = rows }

  found : table_at schema base name ≡ Some table
  found = table_at-some schema base name table (record { place = named; schema = there; rows = held })

  abbrev changing : (Table → Tested Changed) → Option Table → Stepped
  changing change o = needed unknown_table o >>= (λ (u : Table). change u >>= (λ (c : Changed). Ok (slice_set base u.place c.0, c.1)))

  pub step_put : (row : Fields) → step schema base (put name row) ≡ (put_row t row rows >>= (λ (c : Changed). Ok (slice_set base place c.0, c.1)))
  step_put row = ap (changing (λ (u : Table). put_row u.schema row u.rows)) found

  pub step_remove : (row : Fields) → step schema base (remove name row) ≡ (remove_row t row rows >>= (λ (c : Changed). Ok (slice_set base place c.0, c.1)))
  step_remove row = ap (changing (λ (u : Table). remove_row u.schema row u.rows)) found

-- ---- the store

module _ (schema : DbSchema) (lawful : IsLawfulSchema schema) (H : History) (txns : List Begun) (H' : History) (txns' : List Begun) (stamp : Stamp) (base : State) (w : Write) (grown : IsGrown schema H txns H' txns' stamp base w)
    (st new : Store) (stands : StandsFor schema H txns st) (place : ℕ) (t : TableSchema) (rows : List Fields) (there : slice_get schema place ≡ Some t) (held : slice_get base place ≡ Some rows) (name : t.name ≡ table_of w)
    (told : Tested Changed) (stepped : step schema base w ≡ (told >>= (λ (c : Changed). Ok (slice_set base place c.0, c.1)))) (ys : List KeyVersions)
    (changed : HasChanged t rows (row_put w) told stamp (indexes_at st place) ys) (long : length ys ≡ length (indexes_at st place)) (written : IsWrittenAt place ys st new) where
  abbrev c : Changed
  c = changed.changed

  done : step schema base w ≡ Ok (slice_set base place c.0, c.1)
  done = stepped ∙ ap (λ (r : Tested Changed). r >>= (λ (d : Changed). let q : Stepped = Ok (slice_set base place d.0, d.1) in q)) changed.done

  state : stepped_by schema base w ≡ slice_set base place c.0
  state = ap (state_or base) done

  touched : (u : TableSchema) (b : Bool) → bytes_eq t.name u.name ≡ b → rows_touched schema base w u.name ≡ (if b then row_put w ++ option_to_list c.1 else [])
  touched u b same =
      ap (rows_of_step u.name w) done
      ∙ ap (λ (d : Bool). if d then row_put w ++ option_to_list c.1 else []) (ap (λ (n : Bytes). bytes_eq n u.name) (sym name) ∙ same)

  here : (at : ℕ) (i : IndexSchema) (y : KeyVersions) → slice_get t.indexes at ≡ Some i → slice_get (indexes_at new place) at ≡ Some y → IsIndexOf schema H' txns' place t i y
  here at i y index now =
      let now_there : slice_get ys at ≡ Some y = ap (λ (xs : List KeyVersions). slice_get xs at) (sym written.here) ∙ now in
      let x = there_within (indexes_at st place) at (omega (arith, slice_get_within ys at y now_there, long)) in
      index_grows schema H txns H' txns' stamp base w grown place t i x.0 y (stands.each place at t i x.0 there index x.1) rows c.0 held
      (ap (λ (s : State). slice_get s place) state ∙ slice_get-set_same base place c.0 rows held)
      (subst (λ (rs : List Fields). IsWrittenIn t i rows c.0 rs stamp x.0 y) (sym (touched t true (bytes_eq-itself t.name))) (changed.each at i x.0 y index x.1 now_there))

  elsewhere : (other at : ℕ) (u : TableSchema) (i : IndexSchema) (y : KeyVersions) → other ≢ place → slice_get schema other ≡ Some u → slice_get u.indexes at ≡ Some i → slice_get (indexes_at new other) at ≡ Some y
      → (before : List Fields) → slice_get base other ≡ Some before → IsIndexOf schema H' txns' other u i y
  elsewhere other at u i y apart is index now before was =
      let old : slice_get (indexes_at st other) at ≡ Some y = ap (λ (xs : List KeyVersions). slice_get xs at) (sym (written.others other apart)) ∙ now in
      index_grows schema H txns H' txns' stamp base w grown other u i y y (stands.each other at u i y is index old) before before was
      (ap (λ (s : State). slice_get s other) state ∙ slice_get-set_other base place other c.0 apart ∙ was)
      (subst (λ (rs : List Fields). IsWrittenIn u i before before rs stamp y y) (sym (touched u false (other_name schema lawful place other t u there is apart))) (nothing_written u i before stamp y))

  at_place : (other at : ℕ) (u : TableSchema) (i : IndexSchema) (y : KeyVersions) → (b : Bool) → nat_eq other place ≡ b → slice_get schema other ≡ Some u → slice_get u.indexes at ≡ Some i → slice_get (indexes_at new other) at ≡ Some y
      → (before : List Fields) → slice_get base other ≡ Some before → IsIndexOf schema H' txns' other u i y
  at_place other at u i y true e is index now before was =
      let same : other ≡ place = grind (arith, nat_tests) in
      let table : u ≡ t = let h = sym is ∙ ap (slice_get schema) same ∙ there in cc in
      subst (λ (p : ℕ). IsIndexOf schema H' txns' p u i y) (sym same)
      (subst (λ (v : TableSchema). IsIndexOf schema H' txns' place v i y) (sym table)
      (here at i y (ap (λ (v : TableSchema). slice_get v.indexes at) (sym table) ∙ index) (ap (λ (p : ℕ). slice_get (indexes_at new p) at) (sym same) ∙ now)))
  at_place other at u i y false e is index now before was =
      let apart : other ≢ place = λ same. let f : nat_eq other place ≡ true = grind (arith, nat_tests) in let h = sym e ∙ f in cc in
      elsewhere other at u i y apart is index now before was

  indexes_long : (other : ℕ) (u : TableSchema) (b : Bool) → nat_eq other place ≡ b → slice_get schema other ≡ Some u → length (indexes_at new other) ≡ length u.indexes
  indexes_long other u true e is =
      let same : other ≡ place = grind (arith, nat_tests) in
      ap (λ (p : ℕ). length (indexes_at new p)) same ∙ ap (λ (xs : List KeyVersions). length xs) written.here ∙ long
      ∙ ap (λ (p : ℕ). length (indexes_at st p)) (sym same) ∙ stands.indexes other u is
  indexes_long other u false e is =
      let apart : other ≢ place = λ same. let f : nat_eq other place ≡ true = grind (arith, nat_tests) in let h = sym e ∙ f in cc in
      ap (λ (xs : List KeyVersions). length xs) (written.others other apart) ∙ stands.indexes other u is

  pub store_grows : length base ≡ length schema → StandsFor schema H' txns' new
  store_grows whole = record {
    tables = written.tables ∙ stands.tables;
    indexes = λ other u is. indexes_long other u (nat_eq other place) refl is;
    each = λ other at u i y is index now.
        let before = there_within base other (omega (arith, slice_get_within schema other u is, whole)) in
        at_place other at u i y (nat_eq other place) refl is index now before.0 before.1;
  }
