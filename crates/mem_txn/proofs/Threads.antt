-- What a database shows and keeps may be handed to another thread and shared with it.
use base.Fml.{Lft}
use denote.Param.Send.{IsSend, IsSync, sendable}
use denote.Ref.{MutRef, ShrRef}
use mir.Syntax.{Lifetime}
use Rattle.db_front.proofs.pass.Pass.TheSendSync as token
use Rattle.db_front.proofs.passes.Passes.TheSendSync as tokens
use Rattle.db_front.proofs.shared.Shared.TheSendSync as front
use Rattle.watch_word.proofs.book.Book.TheSendSync as book
use Rattle.watch_word.proofs.cell.WatchCell.TheSendSync as cell
use Rattle.watch_word.proofs.front.Front.TheSendSync as log
use Rattle.radix_node.specs.contracts.ids.Ids
use Rattle.radix_node.specs.contracts.left.Left
use Rattle.radix_txn.specs.contracts.txn.TreeTxn
use Rattle.mem_txn.specs.contracts.db.Db
use Rattle.mem_txn.specs.contracts.pass.Pass
use Rattle.mem_txn.specs.contracts.passes.Passes
use Rattle.mem_txn.specs.contracts.turn.Turn
use Rattle.std.proofs.Crossing.{crosses, sync}
use Rattle.std.specs.contracts.alloc.Global
use Rattle.std.specs.contracts.option.Option
use Rattle.mdb_datum.proofs.Threads.{row_send, row_sync}
use Rattle.mdb_datum.specs.contracts.text.Text
use Rattle.mdb_encode.specs.contracts.kind.Kind
use Rattle.mdb_encode.specs.contracts.kind.part.Part
use Rattle.mdb_schema.specs.contracts.schema.Schema
use Rattle.mdb_schema.specs.contracts.index_def.IndexDef
use Rattle.mdb_schema.specs.contracts.table_def.TableDef
use Rattle.mdb_schema.specs.contracts.table_def.TableParts
use Rattle.table_index.specs.contracts.table.Table
use Rattle.table_index.specs.contracts.table_txn.TableTxn
use Rattle.radix_node.proofs.Threads.{tree_send, tree_sync}
use Rattle.mem_txn.specs.contracts.accepted.Accepted
use Rattle.mem_txn.specs.contracts.db_txn.DbTxn
use Rattle.mem_txn.specs.contracts.read_txn.ReadTxn
use Rattle.mem_txn.specs.contracts.snapshot.Snapshot
use Rattle.mem_txn.specs.contracts.lazy_table.LazyTable
use Rattle.mem_txn.specs.contracts.view.View
use Rattle.mem_txn.specs.contracts.version.Contents
use Rattle.mem_txn.specs.contracts.version.Version

text-send : IsSend (Text.the_field).row
text-send = search (sendable, crosses) depth 20

text-sync : IsSync (Text.the_field).row
text-sync = search (sendable, crosses) depth 20

part-send : IsSend Part.the_row
part-send = search (sendable, crosses) depth 60 fits 40000

part-sync : IsSync Part.the_row
part-sync = search (sendable, crosses) depth 60 fits 40000

kind-send : IsSend (Kind.the_field).row
kind-send = search (sendable, crosses, part-send) depth 60 fits 40000

kind-sync : IsSync (Kind.the_field).row
kind-sync = search (sendable, crosses, part-sync) depth 60 fits 40000

index-send : IsSend IndexDef.the_row
index-send = search (sendable, text-send, kind-send) depth 20

index-sync : IsSync IndexDef.the_row
index-sync = search (sendable, text-sync, kind-sync) depth 20

parts-send : IsSend TableParts.the_row
parts-send = search (sendable, crosses, text-send, index-send) depth 20

parts-sync : IsSync TableParts.the_row
parts-sync = search (sendable, crosses, text-sync, index-sync) depth 20

pub def_send : IsSend TableDef.the_row
def_send = search (sendable, crosses, parts-send, parts-sync) depth 20

pub def_sync : IsSync TableDef.the_row
def_sync = search (sendable, crosses, parts-send, parts-sync) depth 20

pub schema_send : IsSend Schema.the_row
schema_send = search (sendable, crosses, def_send) depth 20

pub schema_sync : IsSync Schema.the_row
schema_sync = search (sendable, crosses, def_sync) depth 20

pub table_send : IsSend Table.the_row
table_send = search (sendable, crosses, def_send, tree_send) depth 20

pub table_sync : IsSync Table.the_row
table_sync = search (sendable, crosses, def_sync, tree_sync) depth 20

left-send : IsSend Left.the_row
left-send = search (sendable, crosses, cell.the_send, cell.the_sync) depth 20

tree_txn-send : IsSend TreeTxn.the_row
tree_txn-send = search (sendable, crosses, tree_send, left-send) depth 20

pub table_change_send : IsSend TableTxn.the_row
table_change_send = search (sendable, crosses, def_send, tree_txn-send) depth 20

pub accepted_send : IsSend Accepted.the_row
accepted_send = search (sendable, crosses, def_send, row_send) depth 20

pub accepted_sync : IsSync Accepted.the_row
accepted_sync = search (sendable, crosses, def_sync, row_sync) depth 20

pub view_send : IsSend View.the_row
view_send = search (sendable, crosses, schema_send, schema_sync, table_send, table_sync) depth 20

pub view_sync : IsSync View.the_row
view_sync = search (sendable, crosses, schema_send, schema_sync, table_send, table_sync) depth 20

ids-send : IsSend Ids.the_row
ids-send = search (sendable, crosses, book.the_send, book.the_sync) depth 20

ids-sync : IsSync Ids.the_row
ids-sync = search (sendable, crosses, book.the_send, book.the_sync) depth 20

contents-send : IsSend Contents.the_row
contents-send = search (sendable, crosses, view_send, accepted_send, ids-send) depth 20

contents-sync : IsSync Contents.the_row
contents-sync = search (sendable, crosses, view_sync, accepted_sync, ids-sync) depth 20

pub version_send : IsSend Version.the_row
version_send = search (sendable, crosses, contents-send, contents-sync) depth 20

pub version_sync : IsSync Version.the_row
version_sync = search (sendable, crosses, contents-send, contents-sync) depth 20

-- ---- what callers share, and their passes

pub db_send : IsSend Db.the_row
db_send = search (sendable, crosses, schema_send, schema_sync, version_send, version_sync, front.the_send, log.the_send) depth 20

pub db_sync : IsSync Db.the_row
db_sync = search (sendable, crosses, schema_send, schema_sync, version_send, version_sync, front.the_sync, log.the_sync) depth 20

pub pass_send : IsSend Pass.the_row
pass_send = search (sendable, version_send, version_sync, token.the_send) depth 20

pub passes_send : IsSend Passes.the_row
passes_send = search (sendable, version_send, version_sync, tokens.the_send) depth 20

pub turn_send : IsSend Turn.the_row
turn_send = search (sendable, crosses, version_send, version_sync, token.the_send) depth 20

lazy_table-send : IsSend LazyTable.the_row
lazy_table-send = search (sendable, crosses, table_send, table_sync, table_change_send) depth 20

pub db_txn_send : IsSend DbTxn.the_row
db_txn_send = search (sendable, crosses, turn_send, lazy_table-send, accepted_send, ids-send) depth 20

pub read_send : IsSend ReadTxn.the_row
read_send = search (sendable, crosses, version_send, version_sync) depth 20

pub read_sync : IsSync ReadTxn.the_row
read_sync = search (sendable, crosses, version_send, version_sync) depth 20

pub snapshot_send : IsSend Snapshot.the_row
snapshot_send = search (sendable, view_send) depth 20

pub snapshot_sync : IsSync Snapshot.the_row
snapshot_sync = search (sendable, view_sync) depth 20

-- ---- what a thread of a caller borrows; a search through all of it at once gives up

pub heap_lent : (ℓ : Lifetime) (κ : Lft) → IsSend (ShrRef ℓ κ Global.the_row)
heap_lent ℓ κ = search (sendable, sync) depth 20

pub db_lent : (ℓ : Lifetime) (κ : Lft) → IsSend (ShrRef ℓ κ Db.the_row)
db_lent ℓ κ = search (sendable, db_sync) depth 20

pub pass_lent : (ℓ : Lifetime) (κ : Lft) → IsSend (MutRef ℓ κ (Option.the_row Pass.the_row))
pass_lent ℓ κ = search (sendable, pass_send) depth 20

pub read_lent : (ℓ : Lifetime) (κ : Lft) → IsSend (ShrRef ℓ κ ReadTxn.the_row)
read_lent ℓ κ = search (sendable, read_sync) depth 20
