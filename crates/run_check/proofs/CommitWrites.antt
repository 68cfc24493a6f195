-- The writes of a line, in the store of the commit that is being made.
use Rattle.std.proofs.Common.{◌≡◌, ◌≢◌, ◌≤◌, ◌∙◌, ◌-◌, ◌++◌, ℕ, zero, suc, List, [], ◌∷◌, Bool, true, false, Option, Some, None, Result, Ok, Err, OnOk, length, map, nat_eq, get_or, slice_get, slice_set, refl, sym, ap, subst, inl, inr, arith, length-append}
use Rattle.std.specs.Prelude.{if◌then◌else◌, is_ok}
use Rattle.std.proofs.lemmas.Bool.Decides.{nat_tests}
use Rattle.std.proofs.lemmas.List.{append-nil, length-set, with_items_is}
use Rattle.std.proofs.lemmas.Option.{slice_get-get_or, slice_get_within}
use Rattle.std.specs.Vec.{with_item, with_items}
use Rattle.std.specs.declared.alloc.Global.{Global}
use Rattle.std.specs.declared.vec.Vec.{Vec}
use Rattle.mdb_datum.specs.Bytes.{Bytes}
use Rattle.mdb_datum.specs.Row.{Fields}
use Rattle.mdb_datum.proofs.ListPlaces.{there_within}
use Rattle.mdb_schema.specs.Entries.{entries}
use Rattle.mdb_schema.specs.History.{Commit, History, state_at}
use Rattle.mdb_schema.specs.Schema.{DbSchema, IndexSchema, TableSchema, table_place}
use Rattle.mdb_schema.specs.State.{IsLawfulState, State, Table, table_at}
use Rattle.mdb_schema.specs.Tests.{◌>>=◌, needed}
use Rattle.mdb_schema.specs.Write.{Changed, Stepped, Tested, Write, WriteRefusal, put, put_row, remove, remove_row, step, table_of, unknown_table}
use Rattle.mdb_schema.specs.Touched.{row_put}
use Rattle.mdb_schema.proofs.LawfulStates.{state_at_lawful}
use Rattle.mdb_schema.proofs.Tables.{rows_lawful, slice_get-set_other, slice_get-set_same, table_place-name}
use Rattle.run_check.specs.Commits.{accepted_step}
use Rattle.run_check.specs.declared.index.Index as index
use Rattle.run_check.specs.declared.sight.Sight.{Sight}
use Rattle.run_check.specs.declared.sight.Stamp.TheVariants as stamps
use Rattle.run_check.specs.declared.store.Store.{Store}
use Rattle.run_check.specs.inner.EditView.{AreReady, AreSeen, HasChanged, seen_of}
use Rattle.run_check.specs.inner.GrowView.{IsGrown, IsWrittenAt}
use Rattle.run_check.specs.declared.history.Edit.{Edit}
use Rattle.run_check.specs.declared.history.Edit.TheVariants as edits
use Rattle.run_check.specs.inner.HistoryView.{IsDone, IsMaking, edited, row_edited, rows_put, with_writes}
use Rattle.run_check.specs.inner.IndexView.{KeyVersions, MayCome}
use Rattle.run_check.specs.inner.StoreView.{Begun, IsSightOf, StandsFor, Wrote, indexes_at}
use Rattle.run_check.proofs.CommitGrows.{commit_grown}
use Rattle.run_check.proofs.StoreGrows.{step_put, step_remove, store_grows}

-- two outcomes where a result is no error
pub on_both : {A E : Type 0} {P Q R : Type 0} (r : Result A E) → OnOk r P → OnOk r Q → (P → Q → R) → OnOk r R
on_both (Ok x) p q f = f p q
on_both (Err e) p q f = tt

-- ---- lists

pub state_long : (schema : DbSchema) (s : State) → IsLawfulState schema s → length s ≡ length schema
state_long [] [] lawful = refl
state_long [] (rows ∷ s) lawful = absurd lawful
state_long (t ∷ ts) [] lawful = absurd lawful
state_long (t ∷ ts) (rows ∷ s) lawful = ap suc (state_long ts s lawful.1)

-- two lists through maps are one list, if they are so place by place
module _ {X Y Z : Type 0} (f : X → Z) (g : Y → Z) where
  pub maps_same : (xs : List X) (ys : List Y) → length xs ≡ length ys
      → ((at : ℕ) (x : X) (y : Y) → slice_get xs at ≡ Some x → slice_get ys at ≡ Some y → f x ≡ g y) → map f xs ≡ map g ys
  maps_same [] [] long each = refl
  maps_same [] (y ∷ ys) long each = let h : zero ≡ suc (length ys) = long in cc
  maps_same (x ∷ xs) [] long each = let h : suc (length xs) ≡ zero = long in cc
  maps_same (x ∷ xs) (y ∷ ys) long each =
      let rest : length xs ≡ length ys = omega (arith, long) in
      ap (λ (z : Z). z ∷ map f xs) (each zero x y refl refl)
      ∙ ap (λ (zs : List Z). g y ∷ zs) (maps_same xs ys rest (λ at a b there here. each (suc at) a b there here))

-- ---- the indexes of one table of a store

pub indexes_held : (st : Store) (place : ℕ) (v : Vec index.Index Global) → slice_get st.tables.items place ≡ Some v → indexes_at st place ≡ v.items
indexes_held st place v there = rw there refl

pub written_at : (st : Store) (place : ℕ) (v : Vec index.Index Global) (ys : List index.Index) → slice_get st.tables.items place ≡ Some v → length ys ≡ v.len → IsWrittenAt place ys st (record { tables = with_item st.tables place (with_items v ys) })
written_at st place v ys there long = record {
  tables = length-set st.tables.items place (with_items v ys);
  here = rw (slice_get-set_same st.tables.items place (with_items v ys) v there) (with_items_is v ys long);
  others = λ other apart. rw (slice_get-set_other st.tables.items place other (with_items v ys) apart) refl;
}

-- ---- a store that stands for the same

pub stands_same : (schema : DbSchema) (H : History) (txns : List Begun) (st new : Store) → length new.tables.items ≡ length st.tables.items → ((at : ℕ) → indexes_at new at ≡ indexes_at st at) → StandsFor schema H txns st → StandsFor schema H txns new
stands_same schema H txns st new long same stands = record {
  tables = long ∙ stands.tables;
  indexes = λ place t there. ap (λ (xs : List KeyVersions). length xs) (same place) ∙ stands.indexes place t there;
  each = λ place at t i x there index is. stands.each place at t i x there index (ap (λ (xs : List KeyVersions). slice_get xs at) (sym (same place)) ∙ is);
}

pub unchanged : (place : ℕ) (ys : List KeyVersions) (st new : Store) → IsWrittenAt place ys st new → ys ≡ indexes_at st place → (at : ℕ) → indexes_at new at ≡ indexes_at st at
unchanged place ys st new written same at = of (nat_eq at place) refl
  where
    of : (b : Bool) → nat_eq at place ≡ b → indexes_at new at ≡ indexes_at st at
    of true e = let is : at ≡ place = grind (arith, nat_tests) in ap (indexes_at new) is ∙ written.here ∙ same ∙ ap (indexes_at st) (sym is)
    of false e =
        let apart : at ≢ place = λ is. let f : nat_eq at place ≡ true = grind (arith, nat_tests) in let h = sym e ∙ f in cc in
        written.others at apart

pub with_none : (schema : DbSchema) (H : History) (c : Commit) (number : ℕ) (st : Store) → IsMaking schema H c number st → IsMaking schema H (with_writes c []) number st
with_none schema H c number st making =
    subst (λ (ws : List Write). IsMaking schema H (record { caller = c.caller; writes = ws }) number st) (sym (append-nil c.writes)) making

-- ---- the commit that is being made

module _ (schema : DbSchema) (H : History) (c : Commit) (number : ℕ) (st : Store) (making : IsMaking schema H c number st) where
  abbrev pub base : State
  base = state_at schema (H ++ c ∷ []) number

  abbrev sight : Sight
  sight = record { commits = number; own = None }

  pub base_lawful : IsLawfulState schema base
  base_lawful = state_at_lawful schema (H ++ c ∷ []) number

  pub is_sight : IsSightOf (H ++ c ∷ []) [] sight
  is_sight = record { there = omega (arith, making.last, length-append H (c ∷ [])); own = λ x e. cc }

  early : (t : TableSchema) (i : IndexSchema) (j : ℕ) (key : Bytes) → Wrote schema (H ++ c ∷ []) t i j key → j ≤ number
  early t i j key wrote =
      let within = slice_get_within (H ++ c ∷ []) (j - 1) wrote.1 wrote.2 in
      omega (arith, within, wrote.0, making.last, length-append H (c ∷ []))

  module _ (place : ℕ) (t : TableSchema) (there : slice_get schema place ≡ Some t) where
    pub rows_there : (rows : List Fields) × (slice_get base place ≡ Some rows)
    rows_there = there_within base place (omega (arith, slice_get_within schema place t there, state_long schema base base_lawful))

    pub are_seen : (rows : List Fields) → slice_get base place ≡ Some rows → AreSeen t rows sight (indexes_at st place)
    are_seen rows held = record {
      lawful = rows_lawful schema base place t rows base_lawful there held;
      held = maps_same (seen_of sight) (λ (i : IndexSchema). entries t i rows) (indexes_at st place) t.indexes (making.stands.indexes place t there)
          (λ at x i is index. (making.stands.each place at t i x there index is).seen sight rows is_sight held);
    }

    may_come : (at : ℕ) (x : KeyVersions) → slice_get (indexes_at st place) at ≡ Some x → MayCome number x
    may_come at x is =
        let long = making.stands.indexes place t there in
        let i = there_within t.indexes at (omega (arith, slice_get_within (indexes_at st place) at x is, long)) in
        let index = making.stands.each place at t i.0 x there i.1 is in
        record {
          versions = λ key j h. early t i.0 j key ((index.written key j).0 h);
          touched = λ j h. let w = (index.touched j).0 h in early t i.0 j w.0 w.1;
          none_own = λ key o h. let made = (index.own key o h).2 in cc;
        }

    pub are_ready : AreReady (stamps.Commit number) (indexes_at st place)
    are_ready = may_come

    -- ---- a write

    module _ (new : Store) (w : Write) (told : Tested Changed) (rows : List Fields) (held : slice_get base place ≡ Some rows) (ys : List KeyVersions)
        (stepped : step schema base w ≡ (told >>= (λ (d : Changed). Ok (slice_set base place d.0, d.1)))) (written : IsWrittenAt place ys st new) (name : t.name ≡ table_of w)
        (long : length ys ≡ length (indexes_at st place)) where
      is_accepted : (changed : Changed) → told ≡ Ok changed → accepted_step schema base w ≡ w ∷ []
      is_accepted changed e = ap (λ (r : Stepped). if is_ok r then w ∷ [] else []) (stepped ∙ ap (λ (r : Tested Changed). r >>= (λ (d : Changed). let q : Stepped = Ok (slice_set base place d.0, d.1) in q)) e)

      is_refused : (why : WriteRefusal) → told ≡ Err why → accepted_step schema base w ≡ []
      is_refused why e = ap (λ (r : Stepped). if is_ok r then w ∷ [] else []) (stepped ∙ ap (λ (r : Tested Changed). r >>= (λ (d : Changed). let q : Stepped = Ok (slice_set base place d.0, d.1) in q)) e)

      grown : IsGrown schema (H ++ c ∷ []) [] (H ++ with_writes c (w ∷ []) ∷ []) [] (stamps.Commit number) base w
      grown = subst (λ (n : ℕ). IsGrown schema (H ++ c ∷ []) [] (H ++ with_writes c (w ∷ []) ∷ []) [] (stamps.Commit n) (state_at schema (H ++ c ∷ []) n) w) (sym making.last) (commit_grown schema H c w)

      accepted : HasChanged t rows (row_put w) told (stamps.Commit number) (indexes_at st place) ys → IsMaking schema H (with_writes c (accepted_step schema base w)) number new
      accepted changed =
          subst (λ (ws : List Write). IsMaking schema H (with_writes c ws) number new) (sym (is_accepted changed.changed changed.done))
          (record {
            lawful = making.lawful;
            last = making.last;
            stands = store_grows schema making.lawful (H ++ c ∷ []) [] (H ++ with_writes c (w ∷ []) ∷ []) [] (stamps.Commit number) base w grown st new making.stands place t rows there held name told stepped ys changed long written
                (state_long schema base base_lawful);
          })

      refused : (why : WriteRefusal) → told ≡ Err why → ys ≡ indexes_at st place → IsMaking schema H (with_writes c (accepted_step schema base w)) number new
      refused why e same =
          subst (λ (ws : List Write). IsMaking schema H (with_writes c ws) number new) (sym (is_refused why e))
          (with_none schema H c number new (record { lawful = making.lawful; last = making.last; stands = stands_same schema (H ++ c ∷ []) [] st new written.tables (unchanged place ys st new written same) making.stands }))

      pub write_made : IsDone t rows (row_put w) told (stamps.Commit number) (indexes_at st place) ys → IsMaking schema H (with_writes c (accepted_step schema base w)) number new
      write_made (inl changed) = accepted changed
      write_made (inr told_why) = refused told_why.0 told_why.1 told_why.2

    -- ---- a put and a removal

    module _ (new : Store) (name : Bytes) (row : Fields) (named : table_place name schema ≡ Some place) (ys : List KeyVersions) (written : IsWrittenAt place ys st new) (long : length ys ≡ length (indexes_at st place)) where
      pub put_made : ((rows : List Fields) → AreSeen t rows sight (indexes_at st place) → IsDone t rows (row ∷ []) (put_row t row rows) (stamps.Commit number) (indexes_at st place) ys)
          → IsMaking schema H (with_writes c (accepted_step schema base (put name row))) number new
      put_made done =
          let rows = rows_there in
          write_made new (put name row) (put_row t row rows.0) rows.0 rows.1 ys (step_put schema base place t rows.0 name named there rows.1 row) written (table_place-name name schema place t named there) long
          (done rows.0 (are_seen rows.0 rows.1))

      pub removal_made : ((rows : List Fields) → AreSeen t rows sight (indexes_at st place) → IsDone t rows [] (remove_row t row rows) (stamps.Commit number) (indexes_at st place) ys)
          → IsMaking schema H (with_writes c (accepted_step schema base (remove name row))) number new
      removal_made done =
          let rows = rows_there in
          write_made new (remove name row) (remove_row t row rows.0) rows.0 rows.1 ys (step_remove schema base place t rows.0 name named there rows.1 row) written (table_place-name name schema place t named there) long
          (done rows.0 (are_seen rows.0 rows.1))

    -- ---- as the code holds the indexes of the table

    module _ (v : Vec index.Index Global) (is : v ≡ get_or st.tables.items place v) where
      held_there : slice_get st.tables.items place ≡ Some v
      held_there = slice_get-get_or st.tables.items place v (omega (arith, slice_get_within schema place t there, making.stands.tables)) ∙ ap Some (sym is)

      same_indexes : (xs : List KeyVersions) → xs ≡ v.items → indexes_at st place ≡ xs
      same_indexes xs same = indexes_held st place v held_there ∙ sym same

      pub list_ready : (xs : List KeyVersions) → xs ≡ v.items → AreReady (stamps.Commit number) xs
      list_ready xs same = subst (λ (zs : List KeyVersions). AreReady (stamps.Commit number) zs) (same_indexes xs same) are_ready

      pub list_long : (xs : List KeyVersions) → xs ≡ v.items → length xs ≡ length t.indexes
      list_long xs same = ap (λ (zs : List KeyVersions). length zs) (sym (same_indexes xs same)) ∙ making.stands.indexes place t there

      module _ (xs ys : List KeyVersions) (same : xs ≡ v.items) (len : length xs ≡ v.len) (long : length ys ≡ length xs) (name : Bytes) (row : Fields) (named : table_place name schema ≡ Some place) where
        abbrev after : Store
        after = record { tables = with_item st.tables place (with_items v ys) }

        as_indexes : indexes_at st place ≡ xs
        as_indexes = same_indexes xs same

        list_put : ((rows : List Fields) → AreSeen t rows sight xs → IsDone t rows (row ∷ []) (put_row t row rows) (stamps.Commit number) xs ys)
            → IsMaking schema H (with_writes c (accepted_step schema base (put name row))) number (record { tables = with_item st.tables place (with_items v ys) })
        list_put done =
            put_made after name row named ys (written_at st place v ys held_there (long ∙ len)) (long ∙ ap (λ (zs : List KeyVersions). length zs) (sym as_indexes))
            (subst (λ (zs : List KeyVersions). (rows : List Fields) → AreSeen t rows sight zs → IsDone t rows (row ∷ []) (put_row t row rows) (stamps.Commit number) zs ys) (sym as_indexes) done)

        list_removal : ((rows : List Fields) → AreSeen t rows sight xs → IsDone t rows [] (remove_row t row rows) (stamps.Commit number) xs ys)
            → IsMaking schema H (with_writes c (accepted_step schema base (remove name row))) number (record { tables = with_item st.tables place (with_items v ys) })
        list_removal done =
            removal_made after name row named ys (written_at st place v ys held_there (long ∙ len)) (long ∙ ap (λ (zs : List KeyVersions). length zs) (sym as_indexes))
            (subst (λ (zs : List KeyVersions). (rows : List Fields) → AreSeen t rows sight zs → IsDone t rows [] (remove_row t row rows) (stamps.Commit number) zs ys) (sym as_indexes) done)

        pub list_edit : (edit : Edit) → ((rows : List Fields) → AreSeen t rows sight xs → IsDone t rows (rows_put edit row) (row_edited edit t row rows) (stamps.Commit number) xs ys)
            → IsMaking schema H (with_writes c (accepted_step schema base (edited edit name row))) number (record { tables = with_item st.tables place (with_items v ys) })
        list_edit edits.Put done = list_put done
        list_edit edits.Remove done = list_removal done

-- ---- no table of the name

unknown : (schema : DbSchema) (s : State) (name : Bytes) → table_place name schema ≡ None → table_at schema s name ≡ None
unknown schema s name none = rw none refl

module _ (schema : DbSchema) (H : History) (c : Commit) (number : ℕ) (st : Store) (making : IsMaking schema H c number st) (name : Bytes) (row : Fields) (none : table_place name schema ≡ None) where
  abbrev on : State
  on = state_at schema (H ++ c ∷ []) number

  abbrev changing : (Table → Tested Changed) → Option Table → Stepped
  changing change o = needed unknown_table o >>= (λ (u : Table). change u >>= (λ (d : Changed). Ok (slice_set on u.place d.0, d.1)))

  abbrev steps : Write → Stepped → List Write
  steps w r = if is_ok r then w ∷ [] else []

  no_put : IsMaking schema H (with_writes c (accepted_step schema on (put name row))) number st
  no_put =
      subst (λ (ws : List Write). IsMaking schema H (with_writes c ws) number st) (sym (ap (λ (o : Option Table). steps (put name row) (changing (λ (t : Table). put_row t.schema row t.rows) o)) (unknown schema on name none)))
      (with_none schema H c number st making)

  no_removal : IsMaking schema H (with_writes c (accepted_step schema on (remove name row))) number st
  no_removal =
      subst (λ (ws : List Write). IsMaking schema H (with_writes c ws) number st) (sym (ap (λ (o : Option Table). steps (remove name row) (changing (λ (t : Table). remove_row t.schema row t.rows) o)) (unknown schema on name none)))
      (with_none schema H c number st making)

  pub no_edit : (edit : Edit) → IsMaking schema H (with_writes c (accepted_step schema on (edited edit name row))) number st
  no_edit edits.Put = no_put
  no_edit edits.Remove = no_removal
