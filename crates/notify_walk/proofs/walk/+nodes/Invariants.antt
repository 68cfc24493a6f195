use Rattle.std.proofs.Common.{◌+◌, ◌*◌, take}
use Rattle.watch_word.specs.Logs.{AreDistinct, IsLater}
use Rattle.radix_node.specs.CellNode.{cell_node}
use Rattle.radix_node.specs.Cells.{CellTree}
use Rattle.radix_node.specs.Watches.{TellTheSame}
use Rattle.notify_walk.specs.Fired.{StayOrFire}
use Rattle.notify_walk.specs.inner.Parts.{AreNodesOf, cells_at, nodes_at}
use Rattle.notify_walk.proofs.Parts.{size}
use Rattle.notify_walk.proofs.walk.+nodes.Given as goal

abbrev pub decreases-fire_edges : goal.decreases-fire_edges
decreases-fire_edges l = 2 * size (nodes_at l.edges.now)

abbrev pub decreases-fire_node : goal.decreases-fire_node
decreases-fire_node l = 2 * size (cell_node l.node.now).under + 1

-- what is under the edges so far stays or has fired
abbrev pub invariant-fire_edges-loop-edge : goal.invariant-fire_edges-loop-edge
invariant-fire_edges-loop-edge l = record {
  later : IsLater l.front l.log;
  told : (old : CellTree) → TellTheSame old l.new → AreNodesOf (nodes_at l.edges) old → StayOrFire (cells_at (take l.edge-index l.edges)) l.new l.log;
  once : AreDistinct l.log.fired;
}
