use Rattle.std.proofs.Common.{◌≡◌, ◌++◌, map, take}
use Rattle.radix_node.specs.CellNode.{led_node}
use Rattle.radix_node.specs.Node.{edge_node}
use Rattle.radix_node.proofs.edges.push_shared.Given as goal

-- the first edges stand at the end
abbrev pub invariant-loop-edge : goal.invariant-loop-edge
invariant-loop-edge l = record {
  edges : map edge_node l.into.items ≡ map edge_node l.initial.into.items ++ map edge_node (take l.edge-index l.edges);
  cells : map led_node l.into.items ≡ map led_node l.initial.into.items ++ map led_node (take l.edge-index l.edges);
}
