-- What a contract sees of a database and its callers.
use Rattle.std.specs.Prelude.{◌≡◌, ◌≤◌, ◌^◌, map}
use Rattle.std.specs.Arc.{arc_value}
use Rattle.mdb_schema.specs.Write.{Write}
use Rattle.db_front.specs.Commits as front
use Rattle.mem_txn.specs.Database.{Caller, Callers, Database, Reading}
use Rattle.mem_txn.specs.declared.accepted.Accepted.TheInside as accepted
use Rattle.mem_txn.specs.declared.db.Db.TheInside as db
use Rattle.mem_txn.specs.declared.pass.Pass.TheInside as pass
use Rattle.mem_txn.specs.declared.passes.Passes.TheInside as passes
use Rattle.mem_txn.specs.declared.read_txn.ReadTxn.TheInside as read_txn
use Rattle.mem_txn.specs.declared.turn.Turn.TheInside as turn
use Rattle.mem_txn.specs.declared.txn_tables.TxnTables.TheInside as txn_tables
use Rattle.mem_txn.specs.declared.version.Contents.TheInside as contents
use Rattle.mem_txn.specs.declared.version.Version.TheInside as version
use Rattle.mem_txn.specs.declared.view.View.TheInside as view
use Rattle.mem_txn.specs.inner.Accepted.{write_of}
use Rattle.mem_txn.specs.inner.VersionTables.{AreAllWithin, AreChangesWithin, Tables, schemas_of, state_of, trees_of}
use Rattle.mem_txn.specs.inner.Steps.{HasLastFirings}
use Rattle.mem_txn.specs.inner.Values.{Version, ViewWithTrees}
use Rattle.mem_txn.specs.inner.Versions.{AreTokens, IsToken, StandsFor, Turned, caller_of}

abbrev pub state_view : view.Inside → ViewWithTrees
state_view v = record {
  view = record {
    schema = arc_value v.schema;
    number = v.number;
    state = state_of (map arc_value v.tables.items);
  };
  trees = trees_of (map arc_value v.tables.items);
}

-- each table stands at its place in the schema
pub record IsView (v : view.Inside) : Type 0 where
  pub schemas : schemas_of (map arc_value v.tables.items) ≡ arc_value v.schema
  pub few : v.number ≤ 2 ^ 63

abbrev pub contents_view : contents.Inside → Version
contents_view v =
    record { view = v.view.view; trees = v.view.trees; writes = v.writes.items; ids = v.ids }

abbrev pub version_view : version.Inside → Version
version_view v = arc_value v.contents

abbrev pub db_view : db.Inside → Database
db_view d = record {
  database = d.shared.table;
  callers = d.shared.callers;
  schema = arc_value d.schema;
  book = d.front.book;
}

abbrev pub read_view : read_txn.Inside → Reading
read_view t =
    let v = arc_value t.version in
    record { view = v.view; trees = v.trees; book = v.ids.book }

-- all cells of its trees are of the book
abbrev pub IsReading : read_txn.Inside → Type 0
IsReading t =
    let v = arc_value t.version in
    AreAllWithin v.ids v.trees

abbrev pub accepted_view : accepted.Inside → Write
accepted_view a = write_of a.kind a.table a.row

abbrev pub pass_view : pass.Inside → Caller
pass_view p = caller_of p.token

-- it doesn't have the writer's turn
abbrev pub IsIdle : pass.Inside → Type 0
IsIdle p = IsToken 0 p.token

abbrev pub passes_view : passes.Inside → Callers
passes_view p = record { passes = map caller_of p.list.passes; made = p.list.room }

abbrev pub AreIdle : passes.Inside → Type 0
AreIdle p = AreTokens p.list.passes

abbrev pub turn_view : turn.Inside → Turned
turn_view t = record { caller = caller_of t.token; base = arc_value t.base }

-- the value is the state after all commits, and the caller's log has all that they fire
pub record IsTurn (t : turn.Inside) : Type 0 where
  pub token : IsToken 1 t.token
  pub stands : StandsFor t.token.seen (arc_value t.base)
  pub log : front.HasFirstFirings HasLastFirings (arc_value t.base).view.number t.token.seen t.token.log

abbrev pub tables_view : txn_tables.Inside → Tables
tables_view t = record { tables = t.tables.items; ids = t.ids }

-- all cells of the tables have ids that were drawn, and no two trees share one
abbrev pub AreTables : txn_tables.Inside → Type 0
AreTables t = AreChangesWithin t.ids t.tables.items
