use denote.Param.Send.{sendable}
use Rattle.radix_node.proofs.Threads.{tree_send, tree_sync}
use Rattle.tree_tests.proofs.nodes.is_new_tree_empty.Goals as goal

pub for_threads-tree-requires-send-T : goal.for_threads-tree-requires-send-T
for_threads-tree-requires-send-T g c = search (sendable, tree_send) depth 20

pub for_threads-tree-requires-sync-T : goal.for_threads-tree-requires-sync-T
for_threads-tree-requires-sync-T g c = search (sendable, tree_sync) depth 20
