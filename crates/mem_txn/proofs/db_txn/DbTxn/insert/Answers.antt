use Rattle.std.proofs.Common.{◌≡◌, Some, refl}
use Rattle.mdb_schema.specs.Schema.{table_place}
use Rattle.mdb_schema.specs.Write.{put, put_row}
use Rattle.mem_txn.specs.DbTxn.{gives_replaced, present}
use Rattle.mem_txn.specs.declared.db_txn.DbTxn.TheInside as db_txn
use Rattle.mem_txn.specs.inner.DbTxnView.{db_txn_view}
use Rattle.mem_txn.proofs.TablesFound.{stand_within, table_place_within}
use Rattle.mem_txn.proofs.TxnWritten.{refused_answer, refused_holds, written_answer, written_holds}
use Rattle.mem_txn.proofs.db_txn.DbTxn.insert.Goals as goal

pub def_at-def-requires : goal.def_at-def-requires
def_at-def-requires c =
    let found : table_place c.args.table.now c.self.inside.pass.caller.schema ≡ Some c.in-Some.place = cc in
    table_place_within c.args.table.now c.self.inside.pass.caller.schema c.in-Some.place found

pub put_in-requires-clause-within : goal.put_in-requires-clause-within
put_in-requires-clause-within c =
    let t = c.self.inside in
    let found : table_place c.args.table.now c.self.inside.pass.caller.schema ≡ Some c.in-Some.place = cc in
    stand_within t.tables.tables t.pass.caller.schema (present (db_txn_view t)) (c.self.invariant.tables c.if-self.false) c.in-Some.place
    c.args.table.now found

pub invariant_of-self : goal.invariant_of-self
invariant_of-self c =
    let found : table_place c.args.table.now c.self.inside.pass.caller.schema ≡ Some c.in-Some.place = cc in
    let left : db_txn.Inside = record c.self.inside { tables = c.put_in.new.tables; writes = c.put_in.new.writes } in
    written_holds gives_replaced put put_row c.args.table.now c.args.row.now (λ schema s. refl) c.self.inside left
    refl c.args.self.now c.self.view_is c.self.invariant c.if-self.false c.in-Some.place found c.def_at-def.result.now
    c.def_at-def.ensures.there refl c.in-Ok.replaced c.in-Ok.ensures.0 c.in-Ok.ensures.1

pub invariant_of-self-in-Err : goal.invariant_of-self-in-Err
invariant_of-self-in-Err c =
    let found : table_place c.args.table.now c.self.inside.pass.caller.schema ≡ Some c.in-Some.place = cc in
    let lost = c.is_memory-self-inside.result in
    let left : db_txn.Inside = record c.self.inside { tables = c.put_in.new.tables; writes = c.put_in.new.writes; spoiled = lost } in
    refused_holds gives_replaced put put_row c.args.table.now c.args.row.now (λ schema s. refl) c.self.inside left
    refl c.args.self.now c.self.view_is c.self.invariant c.if-self.false c.in-Some.place found c.in-Err.error c.in-Err.ensures.0
    c.in-Err.ensures.1 c.is_memory-self-inside.ensures

pub returns-in-Ok : goal.returns-in-Ok
returns-in-Ok c =
    let found : table_place c.args.table.now c.self.inside.pass.caller.schema ≡ Some c.in-Some.place = cc in
    let left : db_txn.Inside = record c.self.inside { tables = c.put_in.new.tables; writes = c.put_in.new.writes } in
    written_answer gives_replaced put put_row c.args.table.now c.args.row.now (λ schema s. refl) c.self.inside left
    refl c.args.self.now c.self.view_is c.self.invariant c.if-self.false c.in-Some.place found c.def_at-def.result.now
    c.def_at-def.ensures.there refl c.in-Ok.replaced c.in-Ok.ensures.0 c.in-Ok.ensures.1

pub returns-in-Err : goal.returns-in-Err
returns-in-Err c =
    let found : table_place c.args.table.now c.self.inside.pass.caller.schema ≡ Some c.in-Some.place = cc in
    let lost = c.is_memory-self-inside.result in
    let left : db_txn.Inside = record c.self.inside { tables = c.put_in.new.tables; writes = c.put_in.new.writes; spoiled = lost } in
    refused_answer gives_replaced put put_row c.args.table.now c.args.row.now (λ schema s. refl) c.self.inside left
    refl c.args.self.now c.self.view_is c.self.invariant c.if-self.false c.in-Some.place found c.in-Err.error c.in-Err.ensures.0
    c.in-Err.ensures.1 c.is_memory-self-inside.ensures
