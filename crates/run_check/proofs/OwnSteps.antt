-- One write of an open transaction, as the code makes it in the indexes of a table.
use Rattle.std.proofs.Common.{◌≡◌, ◌<◌, ◌∙◌, ◌+◌, ◌++◌, ℕ, List, [], ◌∷◌, Bool, false, Option, None, Some, Ok, Err, length, get_or, slice_get, slice_set, refl, sym, ap, subst, inl, inr, arith, length-append}
use Rattle.std.specs.Str.{bytes_eq}
use Rattle.std.specs.Vec.{with_item, with_items}
use Rattle.std.specs.declared.alloc.Global.{Global}
use Rattle.std.specs.declared.vec.Vec.{Vec}
use Rattle.std.proofs.lemmas.Bool.{cond-false}
use Rattle.std.proofs.lemmas.Option.{slice_get-get_or, slice_get_within}
use Rattle.mdb_datum.specs.Bytes.{Bytes}
use Rattle.mdb_datum.specs.Row.{Fields}
use Rattle.mdb_schema.specs.History.{History, state_at, state_or}
use Rattle.mdb_schema.specs.Schema.{DbSchema, TableSchema, table_place}
use Rattle.mdb_schema.specs.State.{State, id_key, row_at}
use Rattle.mdb_schema.specs.Tests.{◌>>=◌}
use Rattle.mdb_schema.specs.Touched.{row_put}
use Rattle.mdb_schema.specs.Write.{Changed, Stepped, Tested, Write, put, put_row, remove, remove_row, step, table_of}
use Rattle.mdb_schema.specs.declared.write_error.WriteError.{WriteError}
use Rattle.mdb_schema.proofs.RowsWith.{row_at-with_row_other}
use Rattle.mdb_schema.proofs.RowsWithout.{row_at-without_row}
use Rattle.mdb_schema.proofs.Tables.{rows_lawful, table_place-name}
use Rattle.mdb_schema.proofs.Writes.{put_accepted, remove_accepted}
use Rattle.run_check.specs.declared.client.Writing.{Writing}
use Rattle.run_check.specs.declared.index.Index as index
use Rattle.run_check.specs.declared.session.Sessions.{Sessions}
use Rattle.run_check.specs.declared.sight.Own.{Own}
use Rattle.run_check.specs.declared.sight.Sight.{Sight}
use Rattle.run_check.specs.declared.sight.Stamp.TheVariants as stamps
use Rattle.run_check.specs.inner.ClientView.{changed_of}
use Rattle.run_check.specs.inner.EditView.{AnswersPut, AnswersRemove, AreReady, AreSeen, HasChanged, IsRefusedWrite}
use Rattle.run_check.specs.inner.GrowView.{IsWrittenAt}
use Rattle.run_check.specs.inner.IndexView.{KeyVersions}
use Rattle.run_check.specs.inner.StoreView.{Begun, StandsFor, indexes_at}
use Rattle.run_check.specs.inner.WritingView.{AnswersStep, HasMore, IsCarried, IsWriting, TellsNone, TellsRow, changed_then, state_now}
use Rattle.run_check.proofs.CommitWrites.{indexes_held, stands_same, state_long, unchanged, written_at}
use Rattle.run_check.proofs.KeysWritten.{ChangesOnly, cover_then, only_there, rise_then, tracked_then}
use Rattle.run_check.proofs.OwnWrites.{are_ready, are_seen, more_none, more_one, now_lawful, own_grown, rows_there, state_one, with_one}
use Rattle.run_check.proofs.StoreGrows.{step_put, step_remove, store_grows}

-- the indexes of the table at a place, as they are lent to a write of one row
pub record AreLent (s : Sessions) (place : ℕ) (t : TableSchema) (v : Vec index.Index Global) (xs : List KeyVersions) : Type 0 where
  pub there : slice_get s.schema.now place ≡ Some t
  pub is : v ≡ get_or s.store.tables.items place v
  pub same : xs ≡ v.items
  pub len : length xs ≡ v.len

-- what the write asks of them
pub record MayWrite (w : Writing) (place : ℕ) (t : TableSchema) (xs : List KeyVersions) : Type 0 where
  pub ready : AreReady (stamps.Own w.own) xs
  pub long : length xs ≡ length t.indexes
  pub few : place < 256

abbrev so : State → ℕ → Changed → Stepped
so base place d = Ok (slice_set base place d.0, d.1)

module _ (schema : DbSchema) (H : History) (txns : List Begun) (s : Sessions) (w : Writing) (writing : IsWriting schema H txns s w) where
  abbrev base : State
  base = state_now schema H txns w.number w.own

  abbrev here : Sight
  here = record { commits = w.number; own = Some w.own }

  pub has_none : (x : Sessions) → x.schema.now ≡ s.schema.now → StandsFor schema H txns x.store → HasMore schema H txns [] w x w
  has_none x same stands = record {
    now = txns;
    more = more_none w.own.txn txns;
    writing = record { schema_is = same ∙ writing.schema_is; lawful = writing.lawful; stands = stands; carried = writing.carried };
    kept = refl;
  }

  module _ (place : ℕ) (t : TableSchema) (v : Vec index.Index Global) (xs : List KeyVersions) (lent : AreLent s place t v xs) where
    there : slice_get schema place ≡ Some t
    there = ap (λ (d : DbSchema). slice_get d place) (sym writing.schema_is) ∙ lent.there

    held_there : slice_get s.store.tables.items place ≡ Some v
    held_there = slice_get-get_or s.store.tables.items place v (omega (arith, slice_get_within schema place t there, writing.stands.tables)) ∙ ap Some (sym lent.is)

    same_indexes : indexes_at s.store place ≡ xs
    same_indexes = indexes_held s.store place v held_there ∙ sym lent.same

    pub may_write : MayWrite w place t xs
    may_write = record {
      ready = subst (λ (zs : List KeyVersions). AreReady (stamps.Own w.own) zs) same_indexes (are_ready schema H txns w.number w.own (changed_of w) writing.carried s.store writing.stands place t there);
      long = ap (λ (zs : List KeyVersions). length zs) (sym same_indexes) ∙ writing.stands.indexes place t there;
      few = omega (arith, slice_get_within schema place t there, writing.lawful.few);
    }

    abbrev held : (rows : List Fields) × (slice_get base place ≡ Some rows)
    held = rows_there schema H txns w.number w.own (changed_of w) writing.carried s.store writing.stands place t there

    seen : AreSeen t held.0 here (indexes_at s.store place)
    seen = are_seen schema H txns w.number w.own (changed_of w) writing.carried s.store writing.stands place t there held.0 held.1

    -- an answer for the indexes as they are lent, and seen so, is one for those of the table
    answered : (R : List Fields → List KeyVersions → Type 0) (sight : Sight) → sight ≡ here → ((rows : List Fields) → AreSeen t rows sight xs → R rows xs) → R held.0 (indexes_at s.store place)
    answered R sight is answers =
        subst (λ (zs : List KeyVersions). R held.0 zs) (sym same_indexes)
        (answers held.0 (subst (λ (z : Sight). AreSeen t held.0 z xs) (sym is) (subst (λ (zs : List KeyVersions). AreSeen t held.0 here zs) same_indexes seen)))

    module _ (name : Bytes) (row : Fields) (named : table_place name schema ≡ Some place) where
      putting : step schema base (put name row) ≡ (put_row t row held.0 >>= (λ (d : Changed). so base place d))
      putting = step_put schema base place t held.0 name named there held.1 row

      removing : step schema base (remove name row) ≡ (remove_row t row held.0 >>= (λ (d : Changed). so base place d))
      removing = step_remove schema base place t held.0 name named there held.1 row

    module _ (ys : List KeyVersions) where
      abbrev after : Sessions
      after = record s { store = record { tables = with_item s.store.tables place (with_items v ys) } }

      written : length ys ≡ length xs → IsWrittenAt place ys s.store after.store
      written long = written_at s.store place v ys held_there (long ∙ lent.len)

      -- ---- a write that is done

      module _ (long : length ys ≡ length xs) where
        module _ (write : Write) (told : Tested Changed) (stepped : step schema base write ≡ (told >>= (λ (d : Changed). so base place d))) (name : t.name ≡ table_of write)
            (changed : HasChanged t held.0 (row_put write) told (stamps.Own w.own) (indexes_at s.store place) ys) where
          is_step : step schema base write ≡ Ok (slice_set base place changed.changed.0, changed.changed.1)
          is_step = stepped ∙ ap (λ (r : Tested Changed). r >>= (λ (d : Changed). so base place d)) changed.done

          now_stands : StandsFor schema H (with_one schema H txns w.number w.own (changed_of w) writing.carried write) after.store
          now_stands =
              store_grows schema writing.lawful H txns H (with_one schema H txns w.number w.own (changed_of w) writing.carried write) (stamps.Own w.own) base write (own_grown schema H txns w.number w.own (changed_of w) writing.carried write) s.store after.store writing.stands
              place t held.0 there held.1 name told stepped ys changed (long ∙ ap (λ (zs : List KeyVersions). length zs) (sym same_indexes)) (written long) (state_long schema base (now_lawful schema H txns w.number w.own))

          module _ (id : Bytes) (others : (i : Bytes) → bytes_eq id i ≡ false → row_at t i changed.changed.0 ≡ row_at t i held.0) (y : Writing) (own : y.own ≡ record { txn = w.own.txn; writes = w.own.writes + 1 })
              (keys : changed_of y ≡ changed_then t.tracked place id (changed_of w)) (kept : y ≡ record w { own = y.own; changed = y.changed }) where
            state_now_is : state_now schema H (with_one schema H txns w.number w.own (changed_of w) writing.carried write) w.number (record { txn = w.own.txn; writes = w.own.writes + 1 }) ≡ slice_set base place changed.changed.0
            state_now_is = state_one schema H txns w.number w.own (changed_of w) writing.carried write ∙ ap (state_or base) is_step

            still_carried : IsCarried schema H (with_one schema H txns w.number w.own (changed_of w) writing.carried write) w.number (record { txn = w.own.txn; writes = w.own.writes + 1 }) (changed_then t.tracked place id (changed_of w))
            still_carried =
                let c = writing.carried in
                let more = more_one w.own.txn txns c.begun write c.is in
                record {
                  there = c.there;
                  last = c.last ∙ sym more.long;
                  begun = record { number = c.begun.number; writes = c.begun.writes ++ write ∷ [] };
                  is = more.here c.begun c.is;
                  on = c.on;
                  all = omega (arith, c.all, length-append c.begun.writes (write ∷ []));
                  tracked = tracked_then place id (changed_of w) schema t there c.tracked;
                  rise = rise_then place id (changed_of w) t.tracked c.rise;
                  cover = cover_then place id (changed_of w) schema t there (state_at schema H w.number) base
                      (state_now schema H (with_one schema H txns w.number w.own (changed_of w) writing.carried write) w.number (record { txn = w.own.txn; writes = w.own.writes + 1 }))
                      (subst (λ (n : State). ChangesOnly place id (changed_of w) schema t there base n) (sym state_now_is) (only_there place id (changed_of w) schema t there base held.0 changed.changed.0 held.1 others)) c.cover;
                }

            has_one : HasMore schema H txns (write ∷ []) w after y
            has_one = record {
              now = with_one schema H txns w.number w.own (changed_of w) writing.carried write;
              more = more_one w.own.txn txns writing.carried.begun write writing.carried.is;
              writing = record {
                schema_is = writing.schema_is;
                lawful = writing.lawful;
                stands = now_stands;
                carried = subst (λ (p : ℕ × Own × List Bytes). IsCarried schema H (with_one schema H txns w.number w.own (changed_of w) writing.carried write) p.0 p.1 p.2)
                    (λ j. (ap (λ (z : Writing). z.number) (sym kept) j, sym own j, sym keys j)) still_carried;
              };
              kept = kept;
            }

        -- a put and a removal
        module _ (name : Bytes) (row : Fields) (named : table_place name schema ≡ Some place) (sight : Sight) (sees : sight ≡ here) where
          pub put_done : (p : Vec ℕ Global × Bool) → ((rows : List Fields) → AreSeen t rows sight xs → AnswersPut t row rows (stamps.Own w.own) (Ok p) xs ys)
              → (y : Writing) → y.own ≡ record { txn = w.own.txn; writes = w.own.writes + 1 } → changed_of y ≡ changed_then t.tracked place p.0.items (changed_of w) → y ≡ record w { own = y.own; changed = y.changed }
              → AnswersStep TellsRow schema H txns (put name row) w (Ok p.1) after y
          put_done p answers y own keys kept =
              let a : AnswersPut t row held.0 (stamps.Own w.own) (Ok p) (indexes_at s.store place) ys = answered (λ rows zs. AnswersPut t row rows (stamps.Own w.own) (Ok p) zs ys) sight sees answers in
              let c = a.0.changed in
              let done = put_accepted t row held.0 c a.0.done in
              let others : (i : Bytes) → bytes_eq p.0.items i ≡ false → row_at t i c.0 ≡ row_at t i held.0 =
              λ i e. ap (λ (d : Changed). row_at t i d.0) (sym done.1) ∙ row_at-with_row_other t i row held.0 (ap (λ (k : Bytes). bytes_eq k i) (sym a.1) ∙ e) in
              let named_so = table_place-name name schema place t named there in (
                (slice_set base place c.0, c.1),
                is_step (put name row) (put_row t row held.0) (putting name row named) named_so a.0,
                a.2,
                has_one (put name row) (put_row t row held.0) (putting name row named) named_so a.0 p.0.items others y own keys kept,
              )

          pub removal_done : (id : Vec ℕ Global) → ((rows : List Fields) → AreSeen t rows sight xs → AnswersRemove t row rows (stamps.Own w.own) (Ok id) xs ys)
              → (y : Writing) → y.own ≡ record { txn = w.own.txn; writes = w.own.writes + 1 } → changed_of y ≡ changed_then t.tracked place id.items (changed_of w) → y ≡ record w { own = y.own; changed = y.changed }
              → AnswersStep TellsNone schema H txns (remove name row) w (Ok tt) after y
          removal_done id answers y own keys kept =
              let a : AnswersRemove t row held.0 (stamps.Own w.own) (Ok id) (indexes_at s.store place) ys = answered (λ rows zs. AnswersRemove t row rows (stamps.Own w.own) (Ok id) zs ys) sight sees answers in
              let c = a.0.changed in
              let done = remove_accepted t row held.0 c a.0.done in
              let rising = (rows_lawful schema base place t held.0 (now_lawful schema H txns w.number w.own) there held.1).rising in
              let others : (i : Bytes) → bytes_eq id.items i ≡ false → row_at t i c.0 ≡ row_at t i held.0 =
              λ i e.
              ap (λ (d : Changed). row_at t i d.0) (sym done.2) ∙ row_at-without_row t i (id_key t row) held.0 rising
              ∙ cond-false (bytes_eq (id_key t row) i) None (row_at t i held.0) (ap (λ (k : Bytes). bytes_eq k i) (sym a.1) ∙ e) in
              let named_so = table_place-name name schema place t named there in (
                (slice_set base place c.0, c.1),
                is_step (remove name row) (remove_row t row held.0) (removing name row named) named_so a.0,
                tt,
                has_one (remove name row) (remove_row t row held.0) (removing name row named) named_so a.0 id.items others y own keys kept,
              )

      -- ---- a write that is refused

      not_done : {A : Type 0} (Tells : A → Option Fields → Type 0) (write : Write) (told : Tested Changed) → step schema base write ≡ (told >>= (λ (d : Changed). so base place d))
          → (e : WriteError) → IsRefusedWrite told e (indexes_at s.store place) ys → AnswersStep Tells schema H txns write w (Err e) after w
      not_done Tells write told stepped e refused = elim refused [
        | inl memory ↦ inl memory
        | inr why ↦
            let so_far = written (ap (λ (zs : List KeyVersions). length zs) (why.3 ∙ same_indexes)) in
            inr (
              why.0,
              stepped ∙ ap (λ (r : Tested Changed). r >>= (λ (d : Changed). so base place d)) why.1,
              why.2,
              has_none after refl (stands_same schema H txns s.store after.store so_far.tables (unchanged place ys s.store after.store so_far why.3) writing.stands),
            )
      ]

      module _ (name : Bytes) (row : Fields) (named : table_place name schema ≡ Some place) (sight : Sight) (sees : sight ≡ here) (e : WriteError) where
        pub put_refused : ((rows : List Fields) → AreSeen t rows sight xs → AnswersPut t row rows (stamps.Own w.own) (Err e) xs ys) → AnswersStep TellsRow schema H txns (put name row) w (Err e) after w
        put_refused answers = not_done TellsRow (put name row) (put_row t row held.0) (putting name row named) e (answered (λ rows zs. AnswersPut t row rows (stamps.Own w.own) (Err e) zs ys) sight sees answers)

        pub removal_refused : ((rows : List Fields) → AreSeen t rows sight xs → AnswersRemove t row rows (stamps.Own w.own) (Err e) xs ys) → AnswersStep TellsNone schema H txns (remove name row) w (Err e) after w
        removal_refused answers = not_done TellsNone (remove name row) (remove_row t row held.0) (removing name row named) e (answered (λ rows zs. AnswersRemove t row rows (stamps.Own w.own) (Err e) zs ys) sight sees answers)
