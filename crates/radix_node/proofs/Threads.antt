-- A tree, its nodes and its edges may be handed to another thread and shared with it. A type that
-- holds itself through an `Arc` has both laws at once, by what the check knows of each layer.
use denote.Builtin
use denote.Param.Send.{IsSend, IsSync, sendable}
use denote.Struct.Field
use Rattle.std.proofs.Crossing.{crosses, Vec-send, Vec-sync, Arc-send, Arc-sync}
use Rattle.std.specs.contracts.alloc.Global
use Rattle.std.specs.contracts.impls.GlobalAllocator.TheImpl
use Rattle.std.specs.contracts.option.Option
use Rattle.std.specs.contracts.sync.Arc
use Rattle.std.specs.contracts.vec.Vec
use Rattle.watch_word.specs.contracts.cell.WatchCell
use Rattle.watch_word.proofs.cell.WatchCell.TheSendSync as of_cell
use Rattle.mdb_datum.proofs.Threads.{row_send, row_sync}
use Rattle.radix_node.proofs.edge.Edge.TheLaws.TheKnot as knot
use Rattle.radix_node.specs.contracts.leaf.Leaf
use Rattle.radix_node.specs.contracts.node_ref.NodeRef
use Rattle.radix_node.specs.contracts.tree.Tree

prefix-send : IsSend (Vec.the_field Builtin.u8 Global.the_row TheImpl.ghosts).row
prefix-send = search (sendable, crosses) depth 20

prefix-sync : IsSync (Vec.the_field Builtin.u8 Global.the_row TheImpl.ghosts).row
prefix-sync = search (sendable, crosses) depth 20

cell-send : IsSend (Arc.the_field WatchCell.the_row Global.the_row TheImpl.ghosts).row
cell-send = Arc-send WatchCell.the_row of_cell.the_send of_cell.the_sync

cell-sync : IsSync (Arc.the_field WatchCell.the_row Global.the_row TheImpl.ghosts).row
cell-sync = Arc-sync WatchCell.the_row of_cell.the_send of_cell.the_sync

leaf-send : IsSend Leaf.the_row
leaf-send = search (sendable, crosses, row_send, cell-send) depth 20

leaf-sync : IsSync Leaf.the_row
leaf-sync = search (sendable, crosses, row_sync, cell-sync) depth 20

label-send : IsSend Field.u8-field.row
label-send = search (sendable, crosses) depth 20

label-sync : IsSync Field.u8-field.row
label-sync = search (sendable, crosses) depth 20

option-send : IsSend (Option.the_field (Arc.the_row Leaf.the_row Global.the_row TheImpl.ghosts)).row
option-send = search (sendable, crosses, leaf-send, leaf-sync) depth 20

option-sync : IsSync (Option.the_field (Arc.the_row Leaf.the_row Global.the_row TheImpl.ghosts)).row
option-sync = search (sendable, crosses, leaf-send, leaf-sync) depth 20

ref-send : IsSend (NodeRef.the_field).row
ref-send = knot.both_send-NodeRef label-send label-sync (λ h s y. Vec-send h s) (λ h s y. Vec-sync h y) prefix-send prefix-sync option-send option-sync cell-send cell-sync Arc-send Arc-sync

ref-sync : IsSync (NodeRef.the_field).row
ref-sync = knot.both_sync-NodeRef label-send label-sync (λ h s y. Vec-send h s) (λ h s y. Vec-sync h y) prefix-send prefix-sync option-send option-sync cell-send cell-sync Arc-send Arc-sync

pub tree_send : IsSend Tree.the_row
tree_send = search (sendable, ref-send) depth 20

pub tree_sync : IsSync Tree.the_row
tree_sync = search (sendable, ref-sync) depth 20
