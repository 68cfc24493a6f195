-- A session may be handed to another thread.
use denote.Param.Send.{IsSend, IsSync, sendable}
use Rattle.std.proofs.Crossing.{crosses}
use Rattle.std.proofs.MapsCrossing as maps
use Rattle.mdb_datum.specs.contracts.text.Text
use Rattle.mdb_encode.specs.contracts.key.Key
use Rattle.client_script.proofs.Threads.{query_send, query_sync, script_send, text_send}
use Rattle.mem_txn.proofs.Threads.{db_txn_send, pass_send, read_send, snapshot_send}
use Rattle.mem_txn.specs.contracts.held.Held
use Rattle.mem_txn.specs.contracts.held.Watching as WatchingOf
use Rattle.mem_txn.specs.contracts.pass.Pass
use Rattle.mem_txn.specs.contracts.read_txn.ReadTxn
use Rattle.mem_txn.specs.contracts.write_txn.WriteTxn
use Rattle.table_index.specs.contracts.watched.Spot
use Rattle.watch_set.specs.contracts.member.Member
use Rattle.watch_set.specs.contracts.set.WatchSet
use Rattle.watch_word.proofs.cell.WatchCell.TheSendSync as cell
use Rattle.watch_word.specs.contracts.watch.Watch
use Rattle.client_session.specs.contracts.session_state.SessionState
use Rattle.client_session.specs.contracts.any_snapshot.AnySnapshot
use Rattle.client_session.specs.contracts.named.Named
use Rattle.client_session.specs.contracts.«open».Open
use Rattle.client_session.specs.contracts.session.Session
use Rattle.client_session.specs.contracts.watching.Watching

-- ---- what is open, and the snapshots

write-send : IsSend (WriteTxn.the_field Text.the_row).row
write-send = search (sendable, crosses, db_txn_send, text_send) depth 20

pass-field-send : IsSend Pass.the_field.row
pass-field-send = search (sendable, pass_send) depth 20

read-field-send : IsSend ReadTxn.the_field.row
read-field-send = search (sendable, read_send) depth 20

open-send : IsSend Open.the_field.row
open-send = search (sendable, pass-field-send, read-field-send, write-send) depth 100 fits 100000

any_snapshot-send : IsSend AnySnapshot.the_row
any_snapshot-send = search (sendable, read_send, snapshot_send) depth 20

snapshots-send : IsSend (Named.the_field AnySnapshot.the_row).row
snapshots-send = search (sendable, maps.crosses, any_snapshot-send) depth 20

-- ---- what is watched

watch-send : IsSend Watch.the_field.row
watch-send = search (sendable, crosses, cell.the_send, cell.the_sync) depth 20

watch-sync : IsSync Watch.the_field.row
watch-sync = search (sendable, crosses, cell.the_send, cell.the_sync) depth 20

key-send : IsSend Key.the_field.row
key-send = search (sendable, crosses) depth 20

key-sync : IsSync Key.the_field.row
key-sync = search (sendable, crosses) depth 20

spot-send : IsSend Spot.the_field.row
spot-send = search (sendable, crosses, key-send, watch-send) depth 20

spot-sync : IsSync Spot.the_field.row
spot-sync = search (sendable, crosses, key-sync, watch-sync) depth 20

watching_of-send : IsSend WatchingOf.the_row
watching_of-send = search (sendable, crosses, query_send, spot-send) depth 20

watching_of-sync : IsSync WatchingOf.the_row
watching_of-sync = search (sendable, crosses, query_sync, spot-sync) depth 20

held-send : IsSend Held.the_row
held-send = search (sendable, crosses, watching_of-send, watching_of-sync) depth 20

member-send : IsSend Member.the_row
member-send = search (sendable, crosses, text_send, held-send) depth 20

set-send : IsSend WatchSet.the_row
set-send = search (sendable, crosses, member-send) depth 20

watches-send : IsSend (Named.the_field Held.the_row).row
watches-send = search (sendable, maps.crosses, held-send) depth 20

sets-send : IsSend (Named.the_field WatchSet.the_row).row
sets-send = search (sendable, maps.crosses, set-send) depth 20

watching-send : IsSend Watching.the_field.row
watching-send = search (sendable, watches-send, sets-send) depth 20

-- ---- a session

state-send : IsSend SessionState.the_row
state-send = search (sendable, open-send, snapshots-send, watching-send) depth 20

pub session_send : IsSend Session.the_row
session_send = search (sendable, crosses, script_send, state-send) depth 100 fits 100000
