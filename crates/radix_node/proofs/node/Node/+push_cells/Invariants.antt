use Rattle.std.proofs.Common.{◌≡◌, ◌<◌, ◌+◌, ◌^◌, length, drop}
use Rattle.radix_node.specs.CellNode.{cell_node}
use Rattle.radix_node.specs.Left.{all_cells, leave_all}
use Rattle.radix_node.specs.Node.{below_prefix}
use Rattle.radix_node.specs.Nodes.{pairs_of}
use Rattle.radix_node.proofs.CellsLeft.{cells_under}
use Rattle.radix_node.proofs.LeafCount.{count_under}
use Rattle.radix_node.proofs.node.Node.+push_cells.Given as goal

-- what has left and what leaves by the edges from here on is all that leaves; what was counted and
-- what stands under these edges make up all leaves
abbrev pub invariant-loop-edge : goal.invariant-loop-edge
invariant-loop-edge l =
    (leave_all l.first (cells_under (drop l.edge-index l.edge-items)) l.into ≡ leave_all l.first (all_cells (cell_node l.self)) l.fn.into)
    × (length (pairs_of (below_prefix l.self)) < 2 ^ 64 → l.count + count_under (drop l.edge-index l.edge-items) ≡ length (pairs_of (below_prefix l.self)))
