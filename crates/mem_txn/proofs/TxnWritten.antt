-- What a write to a table of the schema leaves of a transaction, and what it is answered.
use Rattle.std.proofs.Common.{◌≡◌, ◌∙◌, ◌++◌, ◌∷◌, [], Bool, List, ℕ, Some, Ok, Err, slice_get, length, refl, sym, ap, subst, false}
use Rattle.std.specs.Prelude.{◌⊎◌, Option}
use Rattle.mdb_encode.specs.Bytes.{Bytes}
use Rattle.mdb_datum.specs.Row.{Fields}
use Rattle.mdb_schema.specs.History.{after_writes}
use Rattle.mdb_schema.specs.Schema.{DbSchema, TableSchema, table_place}
use Rattle.mdb_schema.specs.State.{State, Table}
use Rattle.mdb_schema.specs.Touched.{row_put}
use Rattle.mdb_schema.specs.Write.{Changed, Tested, Write, step, step_in, table_of}
use Rattle.mdb_schema.specs.declared.write_error.WriteError.{WriteError}
use Rattle.mdb_schema.specs.declared.write_error.WriteError.TheVariants.{Memory}
use Rattle.mdb_schema.proofs.Tables.{table_place-name}
use Rattle.table_index.specs.Table.{TableChange}
use Rattle.mem_txn.specs.DbTxn.{AnswersTxnWrite, DbTxn, present, with_writes}
use Rattle.mem_txn.specs.Database.{state_seen}
use Rattle.mem_txn.specs.declared.db_txn.DbTxn.TheInside as db_txn
use Rattle.mem_txn.specs.declared.txn_error.TxnWriteError.TheVariants.{Refused}
use Rattle.mem_txn.specs.inner.DbTxnView.{AreCounted, AreSince, IsDbTxn, db_txn_view}
use Rattle.mem_txn.specs.inner.VersionTables.{AnswersAt, StandFor, Tables, is_memory}
use Rattle.mem_txn.specs.inner.Versions.{Turned}
use Rattle.mem_txn.proofs.IdsCounted.{counted_more, counted_same}
use Rattle.mem_txn.proofs.TablesFound.{stand_within}
use Rattle.mem_txn.proofs.WritesAnswered.{joins_answer, joins_few, joins_later, joins_since, joins_stand, refuses_answer, refuses_same, refuses_since, refuses_stand}

-- what is said of the tables and the writes of a transaction that isn't spoiled
pub record Holds (turn : Turned) (left : Tables) (writes : List Write) : Type 0 where
  pub tables : StandFor left.tables turn.caller.schema (after_writes turn.caller.schema (state_seen turn.caller) writes)
  pub ids : AreCounted turn (length writes) left.ids
  pub since : AreSince turn writes left.tables

-- a write by name, to the table at the place of the name
module _ {A : Type 0} (gives : Option Fields → A → Type 0) (write : Bytes → Fields → Write)
    (change_row : TableSchema → Fields → List Fields → Tested Changed) (name : Bytes) (row : Fields)
    (is_step : (schema : DbSchema) (s : State) → step schema s (write name row) ≡ step_in schema s (table_of (write name row)) (λ (t : Table). change_row t.schema row t.rows))
    (t left : db_txn.Inside) (leaves : left ≡ record t { tables = left.tables; writes = left.writes; spoiled = left.spoiled }) (now : DbTxn)
    (view : db_txn_view t ≡ now)
    (inv : IsDbTxn t) (sound : t.spoiled ≡ false) (place : ℕ)
    (found : table_place (table_of (write name row)) t.pass.caller.schema ≡ Some place) where
  abbrev w : Write
  w = write name row

  abbrev change : TableSchema → List Fields → Tested Changed
  change s rows = change_row s row rows

  abbrev change_in : TableChange → Tested Changed
  change_in u = change u.schema u.rows

  abbrev old : DbTxn
  old = db_txn_view t

  abbrev tables' : Tables
  tables' = left.tables

  abbrev writes' : List Write
  writes' = left.writes.items

  abbrev new : Bool → DbTxn
  new b = record { caller = t.pass.caller; writes = writes'; spoiled = b }

  left_holds : (left.spoiled ≡ false → Holds t.pass tables' writes') → IsDbTxn left
  left_holds holds = subst IsDbTxn (sym leaves) (record {
    few = inv.few;
    number = inv.number;
    tables = λ still. let h = holds still in h.tables;
    ids = λ still. let h = holds still in h.ids;
    since = λ still. let h = holds still in h.since;
  })

  stand : StandFor t.tables.tables t.pass.caller.schema (present old)
  stand = inv.tables sound

  -- ---- accepted

  module _ (def : TableSchema) (there : slice_get t.pass.caller.schema place ≡ Some def) (named : table_of (write name row) ≡ name) (x : A)
      (at : AnswersAt gives (row_put w) change_in place (Ok x) t.tables tables')
      (joined : writes' ≡ t.writes.items ++ write def.name row ∷ []) where
    joins : writes' ≡ t.writes.items ++ w ∷ []
    joins =
        joined
        ∙ ap (λ (n : Bytes). t.writes.items ++ write n row ∷ [])
        (table_place-name (table_of w) t.pass.caller.schema place def found there ∙ named)

    pub written_holds : IsDbTxn left
    written_holds = left_holds (λ still. record {
      tables = joins_stand gives w change is_step old sound place found t.tables tables' stand x at writes' joins;
      ids =
          counted_more t.pass t.tables.ids tables'.ids t.writes.items writes' (inv.ids sound) (w ∷ []) at.book
          (joins_few gives w change is_step old sound place found t.tables tables' stand x at)
          (joins_later gives w change is_step old sound place found t.tables tables' stand x at) joins;
      since =
          joins_since gives w change is_step old sound place found t.tables tables' stand t.pass.base.ids.next t.pass.base.trees
          (inv.ids sound).later (inv.since sound) x at writes' joins;
    })

    pub written_answer : AnswersTxnWrite gives w now.spoiled (Ok x) now (new t.spoiled)
    written_answer =
        let is : new t.spoiled ≡ with_writes old (w ∷ []) = ap (λ (ws : List Write). let r : DbTxn = record { caller = t.pass.caller; writes = ws; spoiled = t.spoiled } in r) joins in
        subst (λ (o : DbTxn). AnswersTxnWrite gives w o.spoiled (Ok x) o (new t.spoiled)) view
        (joins_answer gives w change is_step old sound place found t.tables tables' stand x at (new t.spoiled) is)

  -- ---- refused

  module _ (e : WriteError) (at : (e ≡ Memory) ⊎ AnswersAt gives (row_put w) change_in place (Err e) t.tables tables')
      (same : writes' ≡ t.writes.items) (is : left.spoiled ≡ is_memory e) where
    abbrev kept : DbTxn
    kept = record old { spoiled = is_memory e }

    refused_still : left.spoiled ≡ false → Holds t.pass tables' writes'
    refused_still still =
        let quiet : is_memory e ≡ false = sym is ∙ still in
        record {
          tables =
              subst (λ (ws : List Write). StandFor tables'.tables t.pass.caller.schema (after_writes t.pass.caller.schema (state_seen t.pass.caller) ws)) (sym same)
              (refuses_stand gives w change is_step old sound place found t.tables tables' stand e kept refl at quiet);
          ids =
              counted_same t.pass t.tables.ids tables'.ids t.writes.items writes' (inv.ids sound)
              (refuses_same gives w change is_step old sound place found t.tables tables' stand e kept refl at quiet).1 same;
          since =
              refuses_since gives w change is_step old sound place found t.tables tables' stand e kept refl at quiet
              t.pass.base.ids.next t.pass.base.trees (inv.since sound) writes' same;
        }

    pub refused_holds : IsDbTxn left
    refused_holds = left_holds refused_still

    pub refused_answer : AnswersTxnWrite gives w now.spoiled (Err (Refused e)) now (new left.spoiled)
    refused_answer =
        let within = stand_within t.tables.tables t.pass.caller.schema (present old) stand place (table_of w) found in
        let so : new left.spoiled ≡ kept =
        ap (λ (ws : List Write). let r : DbTxn = record { caller = t.pass.caller; writes = ws; spoiled = left.spoiled } in r) same
        ∙ ap (λ (b : Bool). let r : DbTxn = record { caller = t.pass.caller; writes = t.writes.items; spoiled = b } in r) is in
        subst (λ (o : DbTxn). AnswersTxnWrite gives w o.spoiled (Err (Refused e)) o (new left.spoiled)) view
        (refuses_answer gives w change is_step old sound place found t.tables tables' stand e (new left.spoiled) so t.pass refl (inv.ids sound) within at)
