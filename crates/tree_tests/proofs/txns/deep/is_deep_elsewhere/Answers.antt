-- A tree may go to another thread.
use denote.Param.Send.{sendable}
use Rattle.radix_node.proofs.Threads.{tree_send}
use Rattle.tree_tests.proofs.txns.deep.is_deep_elsewhere.Goals as goal

pub spawn-requires-send-F : goal.spawn-requires-send-F
spawn-requires-send-F g c κs = search (sendable, tree_send) depth 20
