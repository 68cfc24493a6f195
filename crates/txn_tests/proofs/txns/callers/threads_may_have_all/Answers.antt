use denote.Param.Send.{sendable}
use Rattle.mem_txn.proofs.Threads.{db_send, db_sync, pass_send, passes_send, read_send, read_sync, snapshot_send, snapshot_sync}
use Rattle.txn_tests.proofs.txns.callers.threads_may_have_all.Goals as goal

pub may_be_shared-requires-send-T : goal.may_be_shared-requires-send-T
may_be_shared-requires-send-T g c κs = search (sendable, db_send) depth 20

pub may_be_shared-requires-sync-T : goal.may_be_shared-requires-sync-T
may_be_shared-requires-sync-T g c κs = search (sendable, db_sync) depth 20

pub may_be_sent-requires-send-T : goal.may_be_sent-requires-send-T
may_be_sent-requires-send-T g c κs = search (sendable, passes_send) depth 20

pub may_be_sent-requires-2-send-T : goal.may_be_sent-requires-2-send-T
may_be_sent-requires-2-send-T g c κs = search (sendable, pass_send) depth 20

pub may_be_shared-requires-2-send-T : goal.may_be_shared-requires-2-send-T
may_be_shared-requires-2-send-T g c κs = search (sendable, read_send) depth 20

pub may_be_shared-requires-2-sync-T : goal.may_be_shared-requires-2-sync-T
may_be_shared-requires-2-sync-T g c κs = search (sendable, read_sync) depth 20

pub may_be_shared-requires-3-send-T : goal.may_be_shared-requires-3-send-T
may_be_shared-requires-3-send-T g c κs = search (sendable, snapshot_send) depth 20

pub may_be_shared-requires-3-sync-T : goal.may_be_shared-requires-3-sync-T
may_be_shared-requires-3-sync-T g c κs = search (sendable, snapshot_sync) depth 20
