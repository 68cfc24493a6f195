use Rattle.std.proofs.Common.{◌≡◌, ◌+◌, length, map, drop}
use Rattle.radix_node.specs.Nodes.{pairs_of_nodes, pairs_of}
use Rattle.radix_node.specs.Node.{nodes_in, edge_node, below_prefix}
use Rattle.radix_node.proofs.node.Node.+count.Given as goal

-- what was counted and what stands under the edges from here on make up all
abbrev pub invariant-loop-edge : goal.invariant-loop-edge
invariant-loop-edge l = l.count + length (pairs_of_nodes (nodes_in (map edge_node (drop l.edge-index l.edge-items)))) ≡ length (pairs_of (below_prefix l.self))
