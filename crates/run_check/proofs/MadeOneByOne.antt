-- Writes of a commit, made one after the other in the store.
use Rattle.std.proofs.Common.{◌≡◌, ◌∙◌, ◌+◌, ◌++◌, ◌||◌, ℕ, zero, suc, slice_get, take, List, [], ◌∷◌, Bool, true, false, not, cond, Option, Some, None, is_some, Ok, Err, length, Contains, add-one, refl, sym, ap, subst}
use Rattle.std.specs.Prelude.{if◌then◌else◌, is_ok}
use Rattle.std.specs.Str.{bytes_eq}
use Rattle.std.proofs.lemmas.Bool.{cond-true, cond-false}
use Rattle.std.proofs.lemmas.List.{append-nil, append_assoc}
use Rattle.mdb_datum.specs.Bytes.{Bytes}
use Rattle.mdb_datum.specs.Row.{Fields}
use Rattle.mdb_schema.specs.History.{Commit, History, after_writes, state_at, state_or}
use Rattle.mdb_schema.specs.Schema.{DbSchema, TableSchema}
use Rattle.mdb_schema.specs.State.{IsLawfulState, State, Table, id_key, row_at, without_row}
use Rattle.mdb_schema.specs.Tests.{◌>>=◌, needed}
use Rattle.mdb_schema.specs.Wipe.{once, once_after, removals}
use Rattle.mdb_schema.specs.Write.{Changed, Stepped, Tested, Write, id_of, is_among, not_found, remove, step}
use Rattle.mdb_schema.proofs.EntryEdits.{bytes_eq-turned}
use Rattle.mdb_schema.proofs.HistorySteps.{after_writes-append}
use Rattle.mdb_schema.proofs.LawfulStates.{state_at_lawful}
use Rattle.mdb_schema.proofs.Membership.{Contains-first, Contains-later}
use Rattle.mdb_schema.proofs.RowsById.{AreRising, row_at-row}
use Rattle.mdb_schema.proofs.RowsWithout.{rising-without_row, row_at-without_row}
use Rattle.mdb_schema.proofs.Tables.{IsTableAt, put_rows, table_at-put_rows, with_rows}
use Rattle.mdb_schema.proofs.Writes.{remove_answer}
use Rattle.run_check.specs.Commits.{accepted_step, followed}
use Rattle.run_check.specs.declared.store.Store.{Store}
use Rattle.run_check.specs.inner.HistoryView.{IsBegun, IsMaking, Makes, removed_each, with_writes}
use Rattle.run_check.proofs.CommitGrows.{state_last}
use Rattle.run_check.proofs.CommitWrites.{with_none}
use Rattle.run_check.proofs.StoreGrows.{step_remove}

take_suc_more : {X : Type 0} (xs : List X) (at : ℕ) (x : X) → slice_get xs at ≡ Some x → take (suc at) xs ≡ take at xs ++ x ∷ []
take_suc_more [] at x e = cc
take_suc_more {X} (y ∷ ys) zero x e = let same : y ≡ x = cc in ap (λ (z : X). z ∷ []) same
take_suc_more {X} (y ∷ ys) (suc at) x e = ap (λ (zs : List X). y ∷ zs) (take_suc_more ys at x e)

pub take_one_more : {X : Type 0} (xs : List X) (at : ℕ) (x : X) → slice_get xs at ≡ Some x → take (at + 1) xs ≡ take at xs ++ x ∷ []
take_one_more {X} xs at x e = ap (λ (n : ℕ). take n xs) (add-one at) ∙ take_suc_more xs at x e

-- ---- one after the other

state_more : (schema : DbSchema) (H : History) (c : Commit) (ws : List Write) (number : ℕ) → number ≡ length H + 1
    → state_at schema (H ++ with_writes c ws ∷ []) number ≡ after_writes schema (state_at schema (H ++ c ∷ []) number) ws
state_more schema H c ws number last =
    state_last schema H (with_writes c ws) number last
    ∙ after_writes-append schema (state_at schema H (length H)) c.writes ws
    ∙ ap (λ (s : State). after_writes schema s ws) (sym (state_last schema H c number last))

module _ (schema : DbSchema) (number : ℕ) where
  pub made_none : (st : Store) → Makes schema number (λ s. []) st st
  made_none st = λ H c making. with_none schema H c number st making

  pub made_then : (f g : State → List Write) (old mid new : Store) → Makes schema number f old mid → Makes schema number g mid new → Makes schema number (λ s. followed schema s (f s) g) old new
  made_then f g old mid new first second = λ H c making.
      let base = state_at schema (H ++ c ∷ []) number in
      let one = first H c making in
      let two = second H (with_writes c (f base)) one in
      let state = state_more schema H c (f base) number making.last in
      subst (λ (ws : List Write). IsMaking schema H (record { caller = c.caller; writes = ws }) number new)
      (append_assoc c.writes (f base) (g (state_at schema (H ++ with_writes c (f base) ∷ []) number))
      ∙ ap (λ (s : State). c.writes ++ (f base ++ g s)) state)
      two

  -- the same writes, on lawful states
  pub made_as : (f g : State → List Write) (old new : Store) → ((s : State) → IsLawfulState schema s → f s ≡ g s) → Makes schema number f old new → Makes schema number g old new
  made_as f g old new same made = λ H c making.
      let base = state_at schema (H ++ c ∷ []) number in
      subst (λ (ws : List Write). IsMaking schema H (with_writes c ws) number new) (same base (state_at_lawful schema (H ++ c ∷ []) number)) (made H c making)

  pub still_begun : (f : State → List Write) (old new : Store) → Makes schema number f old new → IsBegun schema number old → IsBegun schema number new
  still_begun f old new made begun = (begun.0, with_writes begun.1 (f (state_at schema (begun.0 ++ begun.1 ∷ []) number)), made begun.0 begun.1 begun.2)

-- ---- removals of rows

module _ (schema : DbSchema) (name : Bytes) where
  -- one more
  pub removed_more : (s : State) (rs : List Fields) (r : Fields) → removed_each schema name (rs ++ r ∷ []) s ≡ followed schema s (removed_each schema name rs s) (λ next. accepted_step schema next (remove name r))
  removed_more s [] r = append-nil (accepted_step schema s (remove name r))
  removed_more s (x ∷ rs) r =
      let first = accepted_step schema s (remove name x) in
      let next = after_writes schema s first in
      let rest = removed_each schema name rs next in
      ap (λ (ws : List Write). first ++ ws) (removed_more next rs r)
      ∙ sym (append_assoc first rest (accepted_step schema (after_writes schema next rest) (remove name r)))
      ∙ ap (λ (u : State). (first ++ rest) ++ accepted_step schema u (remove name r)) (sym (after_writes-append schema s first rest))

  -- in a store
  pub one_removed : (number : ℕ) (old mid new : Store) (rs : List Fields) (at : ℕ) (r : Fields) → slice_get rs at ≡ Some r → Makes schema number (removed_each schema name (take at rs)) old mid
      → Makes schema number (λ s. accepted_step schema s (remove name r)) mid new → Makes schema number (removed_each schema name (take (at + 1) rs)) old new
  one_removed number old mid new rs at r there before now =
      made_as schema number (λ s. followed schema s (removed_each schema name (take at rs) s) (λ next. accepted_step schema next (remove name r))) (removed_each schema name (take (at + 1) rs)) old new
      (λ s lawful. sym (removed_more s (take at rs) r) ∙ ap (λ (xs : List Fields). removed_each schema name xs s) (sym (take_one_more rs at r there)))
      (made_then schema number (removed_each schema name (take at rs)) (λ s. accepted_step schema s (remove name r)) old mid new before now)

-- ---- each once

-- the keys that came before are those of the rows that are out
abbrev Tell : TableSchema → List Bytes → List Fields → List Fields → Type 0
Tell t seen rows rs = (x : Fields) → Contains rs x → is_among seen (id_key t x) ≡ not (is_some (row_at t (id_key t x) rows))

or_told : (b s : Bool) (o : Option Fields) → s ≡ not (is_some o) → (b || s) ≡ not (is_some (cond b None o))
or_told true s o e = refl
or_told false s o e = e

told_after : (t : TableSchema) (seen : List Bytes) (rows : List Fields) (r : Fields) (rs : List Fields) → AreRising t rows → Tell t seen rows (r ∷ rs) → Tell t (id_key t r ∷ seen) (without_row t (id_key t r) rows) rs
told_after t seen rows r rs rising tell x h =
    ap (λ (b : Bool). b || is_among seen (id_key t x)) (bytes_eq-turned (id_key t x) (id_key t r))
    ∙ or_told (bytes_eq (id_key t r) (id_key t x)) (is_among seen (id_key t x)) (row_at t (id_key t x) rows) (tell x (Contains-later r rs x h))
    ∙ ap (λ (o : Option Fields). not (is_some o)) (sym (row_at-without_row t (id_key t x) (id_key t r) rows rising))

module _ (schema : DbSchema) (name : Bytes) where
  abbrev changing : State → Table → Tested Changed → Stepped
  changing s table told = told >>= (λ (d : Changed). Ok (put_rows s table d.0, d.1))

  abbrev writes_if : Fields → Stepped → List Write
  writes_if r p = if is_ok p then remove name r ∷ [] else []

  -- a row that is out
  out_step : (s : State) (table : Table) (r : Fields) → IsTableAt schema s name table → id_of table.schema r ≡ Ok (id_key table.schema r) → row_at table.schema (id_key table.schema r) table.rows ≡ None
      → step schema s (remove name r) ≡ Err not_found
  out_step s table r is id out =
      step_remove schema s table.place table.schema table.rows name is.place is.schema is.rows r
      ∙ ap (λ (k : Tested Bytes). changing s table (k >>= (λ (b : Bytes). needed not_found (row_at table.schema b table.rows) >>= (λ (old : Fields). Ok (without_row table.schema b table.rows, Some old))))) id
      ∙ ap (λ (o : Option Fields). changing s table (needed not_found o >>= (λ (old : Fields). Ok (without_row table.schema (id_key table.schema r) table.rows, Some old)))) out

  there_step : (s : State) (table : Table) (r x : Fields) → IsTableAt schema s name table → id_of table.schema r ≡ Ok (id_key table.schema r) → row_at table.schema (id_key table.schema r) table.rows ≡ Some x
      → step schema s (remove name r) ≡ Ok (put_rows s table (without_row table.schema (id_key table.schema r) table.rows), Some x)
  there_step s table r x is id here =
      step_remove schema s table.place table.schema table.rows name is.place is.schema is.rows r
      ∙ ap (changing s table) (remove_answer table.schema r table.rows x (record { id = id; there = here }))

  abbrev both : State → Fields → List Fields → Stepped → List Write
  both s r rs p = followed schema s (writes_if r p) (removed_each schema name rs)

  once_out : (s : State) (table : Table) (seen : List Bytes) (rs : List Fields) → IsTableAt schema s name table → AreRising table.schema table.rows
      → ((x : Fields) → Contains rs x → id_of table.schema x ≡ Ok (id_key table.schema x)) → Tell table.schema seen table.rows rs
      → removed_each schema name rs s ≡ removals name (once_after table.schema seen rs)
  once_out s table seen [] is rising ids tell = refl
  once_out s table seen (r ∷ rs) is rising ids tell =
      of (row_at table.schema (id_key table.schema r) table.rows) refl
      (once_out s table seen rs is rising (λ x h. ids x (Contains-later r rs x h)) (λ x h. tell x (Contains-later r rs x h)))
      (once_out (put_rows s table (without_row table.schema (id_key table.schema r) table.rows)) (with_rows table (without_row table.schema (id_key table.schema r) table.rows)) (id_key table.schema r ∷ seen) rs (table_at-put_rows schema s name table (without_row table.schema (id_key table.schema r) table.rows) is) (rising-without_row table.schema (id_key table.schema r) table.rows rising)
      (λ x h. ids x (Contains-later r rs x h)) (told_after table.schema seen table.rows r rs rising tell))
    where
      told : (o : Option Fields) → row_at table.schema (id_key table.schema r) table.rows ≡ o → is_among seen (id_key table.schema r) ≡ not (is_some o)
      told o e = tell r (Contains-first r rs) ∙ ap (λ (p : Option Fields). not (is_some p)) e

      of : (o : Option Fields) → row_at table.schema (id_key table.schema r) table.rows ≡ o → removed_each schema name rs s ≡ removals name (once_after table.schema seen rs)
          → removed_each schema name rs (put_rows s table (without_row table.schema (id_key table.schema r) table.rows)) ≡ removals name (once_after table.schema (id_key table.schema r ∷ seen) rs)
          → removed_each schema name (r ∷ rs) s ≡ removals name (once_after table.schema seen (r ∷ rs))
      of None e skipped later =
          ap (both s r rs) (out_step s table r is (ids r (Contains-first r rs)) e) ∙ skipped
          ∙ ap (removals name) (sym (cond-true (is_among seen (id_key table.schema r)) (once_after table.schema seen rs) (r ∷ once_after table.schema (id_key table.schema r ∷ seen) rs) (told None e)))
      of (Some x) e skipped later =
          let done = there_step s table r x is (ids r (Contains-first r rs)) e in
          ap (both s r rs) done
          ∙ ap (λ (p : Stepped). remove name r ∷ removed_each schema name rs (state_or s p)) done
          ∙ ap (λ (ws : List Write). remove name r ∷ ws) later
          ∙ ap (removals name) (sym (cond-false (is_among seen (id_key table.schema r)) (once_after table.schema seen rs) (r ∷ once_after table.schema (id_key table.schema r ∷ seen) rs) (told (Some x) e)))

  -- rows of a table, removed each where it is still there, are removed each once
  pub all_once : (s : State) (table : Table) (rs : List Fields) → IsTableAt schema s name table → AreRising table.schema table.rows
      → ((x : Fields) → Contains rs x → id_of table.schema x ≡ Ok (id_key table.schema x)) → ((x : Fields) → Contains rs x → Contains table.rows x)
      → removed_each schema name rs s ≡ removals name (once table.schema rs)
  all_once s table rs is rising ids within =
      once_out s table [] rs is rising ids (λ x h. sym (ap (λ (o : Option Fields). not (is_some o)) (row_at-row table.schema table.rows x rising (within x h))))
