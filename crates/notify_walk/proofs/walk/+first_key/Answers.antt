-- There is less under the node at the first edge.
use Rattle.std.proofs.Common.{ap, arith}
use Rattle.radix_node.specs.CellNode.{cell_edges, led_node}
use Rattle.radix_node.specs.Cells.{CellNode}
use Rattle.notify_walk.proofs.Parts.{first_less, size}
use Rattle.notify_walk.proofs.walk.+first_key.Goals as goal

pub first_key-requires : goal.first_key-requires
first_key-requires t c =
    let less = first_less (cell_edges c.edges.result.now) (led_node c.in-None-Some.edge.now) c.in-None-Some.ensures'.cells in
    (omega (arith, less, c.decreases, ap size c.edges.ensures.cells, ap (λ (n : CellNode). size n.under) c.node.ensures.cells), tt)
