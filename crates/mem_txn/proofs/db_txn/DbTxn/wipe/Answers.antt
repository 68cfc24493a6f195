use Rattle.std.proofs.Common.{◌≡◌, ◌∙◌, Bool, slice_get, Some, Ok, Err, refl, sym, ap, subst, false}
use Rattle.mdb_encode.specs.Bytes.{Bytes}
use Rattle.mdb_schema.specs.LawfulSchema.{IsLawfulTable}
use Rattle.mdb_schema.specs.Schema.{TableSchema, table_place}
use Rattle.mem_txn.specs.DbTxn.{AnswersTxnWipe, DbTxn, present}
use Rattle.mem_txn.specs.declared.txn_error.TxnWipeError.TheVariants.{Refused}
use Rattle.mem_txn.specs.inner.DbTxnView.{db_txn_view}
use Rattle.mem_txn.specs.inner.Wipes.{JoinsGoneAt, is_memory, wipe_by, wiped_by}
use Rattle.mem_txn.proofs.TablesFound.{schema_there, stand_within, table_place_within}
use Rattle.mem_txn.proofs.WipesAnswered.{refused_counted, refused_since, refused_stand, wipe_answer, wipe_counted, wipe_since, wipe_stand}
use Rattle.mem_txn.proofs.db_txn.DbTxn.wipe.Goals as goal
use Rattle.mdb_schema.proofs.Tables.{table_place-name}

pub def_at-def-requires : goal.def_at-def-requires
def_at-def-requires c =
    let found : table_place c.args.query.now.table c.self.inside.pass.caller.schema ≡ Some c.in-Some.place = cc in
    table_place_within c.args.query.now.table c.self.inside.pass.caller.schema c.in-Some.place found

pub wipe_in-requires-clause-within : goal.wipe_in-requires-clause-within
wipe_in-requires-clause-within c =
    let t = c.self.inside in
    let found : table_place c.args.query.now.table t.pass.caller.schema ≡ Some c.in-Some.place = cc in
    stand_within t.tables.tables t.pass.caller.schema (present (db_txn_view t)) (c.self.invariant.tables c.if-self.false) c.in-Some.place c.args.query.now.table found

pub invariant_of-self : goal.invariant_of-self
invariant_of-self c =
    let t = c.self.inside in
    let q = c.args.query.now in
    let found : table_place q.table t.pass.caller.schema ≡ Some c.in-Some.place = cc in
    let named = table_place-name q.table t.pass.caller.schema c.in-Some.place c.def_at-def.result.now found c.def_at-def.ensures.there in
    let stand = c.self.invariant.tables c.if-self.false in
    let at : JoinsGoneAt (λ u. wiped_by c.args.wipe u.schema u.rows q) c.in-Some.place q.table (Ok c.in-Ok.count) t.tables c.wipe_in.new.tables t.writes.items c.wipe_in.new.writes.items =
    subst (λ (n : Bytes). JoinsGoneAt (λ u. wiped_by c.args.wipe u.schema u.rows q) c.in-Some.place n (Ok c.in-Ok.count) t.tables c.wipe_in.new.tables t.writes.items c.wipe_in.new.writes.items) named c.in-Ok.ensures in
    let given : slice_get t.pass.caller.schema c.in-Some.place ≡ Some c.def_at-def.result.now = c.def_at-def.ensures.there in
    let there : slice_get t.pass.caller.schema c.in-Some.place ≡ Some at.before.schema = schema_there t.tables.tables t.pass.caller.schema (present (db_txn_view t)) stand c.in-Some.place at.before at.there in
    let same : c.def_at-def.result.now ≡ at.before.schema = cc in
    let lawful : IsLawfulTable at.before.schema = subst (λ (d : TableSchema). IsLawfulTable d) {y = at.before.schema} same c.def_at-def.ensures.lawful in
    record {
      few = c.self.invariant.few;
      number = c.self.invariant.number;
      tables = λ sound. wipe_stand c.args.wipe q (db_txn_view t) c.if-self.false c.in-Some.place found t.tables c.wipe_in.new.tables stand c.wipe_in.new.writes.items c.in-Ok.count at lawful;
      ids = λ sound. wipe_counted c.args.wipe q (db_txn_view t) c.if-self.false c.in-Some.place found t.tables c.wipe_in.new.tables stand c.wipe_in.new.writes.items t.pass (c.self.invariant.ids c.if-self.false) c.in-Ok.count at;
      since = λ sound. wipe_since c.args.wipe q (db_txn_view t) c.if-self.false c.in-Some.place found t.tables c.wipe_in.new.tables stand c.wipe_in.new.writes.items
          t.pass.base.ids.next t.pass.base.trees (c.self.invariant.ids c.if-self.false).later (c.self.invariant.since c.if-self.false) c.in-Ok.count at lawful;
    }

pub invariant_of-self-in-Err : goal.invariant_of-self-in-Err
invariant_of-self-in-Err c =
    let t = c.self.inside in
    let q = c.args.query.now in
    let found : table_place q.table t.pass.caller.schema ≡ Some c.in-Some.place = cc in
    let named = table_place-name q.table t.pass.caller.schema c.in-Some.place c.def_at-def.result.now found c.def_at-def.ensures.there in
    let at : JoinsGoneAt (λ u. wiped_by c.args.wipe u.schema u.rows q) c.in-Some.place q.table (Err c.in-Err.error) t.tables c.wipe_in.new.tables t.writes.items c.wipe_in.new.writes.items =
    subst (λ (n : Bytes). JoinsGoneAt (λ u. wiped_by c.args.wipe u.schema u.rows q) c.in-Some.place n (Err c.in-Err.error) t.tables c.wipe_in.new.tables t.writes.items c.wipe_in.new.writes.items) named c.in-Err.ensures in
    record {
      few = c.self.invariant.few;
      number = c.self.invariant.number;
      tables = λ sound.
          let quiet : is_memory c.in-Err.error ≡ false = sym c.is_memory-self-inside.ensures ∙ sound in
          refused_stand c.args.wipe q (db_txn_view t) c.if-self.false c.in-Some.place found t.tables c.wipe_in.new.tables (c.self.invariant.tables c.if-self.false) c.wipe_in.new.writes.items c.in-Err.error at quiet;
      ids = λ sound.
          let quiet : is_memory c.in-Err.error ≡ false = sym c.is_memory-self-inside.ensures ∙ sound in
          refused_counted c.args.wipe q (db_txn_view t) c.if-self.false c.in-Some.place found t.tables c.wipe_in.new.tables (c.self.invariant.tables c.if-self.false) c.wipe_in.new.writes.items c.in-Err.error at quiet t.pass
          (c.self.invariant.ids c.if-self.false);
      since = λ sound.
          let quiet : is_memory c.in-Err.error ≡ false = sym c.is_memory-self-inside.ensures ∙ sound in
          refused_since c.args.wipe q (db_txn_view t) c.if-self.false c.in-Some.place found t.tables c.wipe_in.new.tables (c.self.invariant.tables c.if-self.false) c.wipe_in.new.writes.items c.in-Err.error at quiet
          t.pass.base.ids.next t.pass.base.trees (c.self.invariant.since c.if-self.false);
    }

pub returns-in-Ok : goal.returns-in-Ok
returns-in-Ok c =
    let t = c.self.inside in
    let q = c.args.query.now in
    let found : table_place q.table t.pass.caller.schema ≡ Some c.in-Some.place = cc in
    let named = table_place-name q.table t.pass.caller.schema c.in-Some.place c.def_at-def.result.now found c.def_at-def.ensures.there in
    let at : JoinsGoneAt (λ u. wiped_by c.args.wipe u.schema u.rows q) c.in-Some.place q.table (Ok c.in-Ok.count) t.tables c.wipe_in.new.tables t.writes.items c.wipe_in.new.writes.items =
    subst (λ (n : Bytes). JoinsGoneAt (λ u. wiped_by c.args.wipe u.schema u.rows q) c.in-Some.place n (Ok c.in-Ok.count) t.tables c.wipe_in.new.tables t.writes.items c.wipe_in.new.writes.items) named c.in-Ok.ensures in
    let new : DbTxn = record { caller = t.pass.caller; writes = c.wipe_in.new.writes.items; spoiled = t.spoiled } in
    subst (λ (o : DbTxn). AnswersTxnWipe o.spoiled q.table (wipe_by c.args.wipe o.caller.schema (present o) q) (Ok c.in-Ok.count) o new) c.self.view_is
    (wipe_answer c.args.wipe q (db_txn_view t) c.if-self.false c.in-Some.place found t.tables c.wipe_in.new.tables (c.self.invariant.tables c.if-self.false) (Ok c.in-Ok.count) c.wipe_in.new.writes.items at t.pass refl (c.self.invariant.ids c.if-self.false) new refl)

pub returns-in-Err : goal.returns-in-Err
returns-in-Err c =
    let t = c.self.inside in
    let q = c.args.query.now in
    let e = c.in-Err.error in
    let found : table_place q.table t.pass.caller.schema ≡ Some c.in-Some.place = cc in
    let named = table_place-name q.table t.pass.caller.schema c.in-Some.place c.def_at-def.result.now found c.def_at-def.ensures.there in
    let at : JoinsGoneAt (λ u. wiped_by c.args.wipe u.schema u.rows q) c.in-Some.place q.table (Err e) t.tables c.wipe_in.new.tables t.writes.items c.wipe_in.new.writes.items =
    subst (λ (n : Bytes). JoinsGoneAt (λ u. wiped_by c.args.wipe u.schema u.rows q) c.in-Some.place n (Err e) t.tables c.wipe_in.new.tables t.writes.items c.wipe_in.new.writes.items) named c.in-Err.ensures in
    let new : DbTxn = record { caller = t.pass.caller; writes = c.wipe_in.new.writes.items; spoiled = c.is_memory-self-inside.result } in
    let leaves : new ≡ record { caller = t.pass.caller; writes = c.wipe_in.new.writes.items; spoiled = is_memory e } =
    ap (λ (b : Bool). let r : DbTxn = record { caller = t.pass.caller; writes = c.wipe_in.new.writes.items; spoiled = b } in r) c.is_memory-self-inside.ensures in
    subst (λ (o : DbTxn). AnswersTxnWipe o.spoiled q.table (wipe_by c.args.wipe o.caller.schema (present o) q) (Err (Refused e)) o new) c.self.view_is
    (wipe_answer c.args.wipe q (db_txn_view t) c.if-self.false c.in-Some.place found t.tables c.wipe_in.new.tables (c.self.invariant.tables c.if-self.false) (Err e) c.wipe_in.new.writes.items at t.pass refl (c.self.invariant.ids c.if-self.false) new leaves)
