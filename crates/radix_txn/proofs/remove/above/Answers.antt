-- The node leaves, after what happened at the edge.
use Rattle.std.proofs.Common.{◌∙◌, ap}
use Rattle.radix_node.specs.CellNode.{cell_node}
use Rattle.watch_word.specs.Logs.{Cell}
use Rattle.radix_txn.specs.inner.Remains.{own_leaf, own_nodes, pieces_left}
use Rattle.radix_txn.specs.inner.Steps.{one_left}
use Rattle.radix_txn.proofs.CellRemains.{above_step}
use Rattle.radix_txn.proofs.remove.above.Goals as goal

pub returns-clause-cells : goal.returns-clause-cells
returns-clause-cells c front k old there onward first =
    let r = c.in_ok-left.left in
    let nodes = c.in_ok-left.ensures.nodes in
    above_step (cell_node c.args.node.now) c.args.at k there nodes.0 (own_leaf r) (own_nodes r) (pieces_left c.args.below.remains) old c.args.cells.now c.above.new.cells c.leave.new.self c.in_ok-left.ensures.leaf nodes.1 first nodes.2 onward c.in_ok-left.ensures.onward
    (c.in_ok-leave.ensures.left ∙ ap (λ (x : Cell). one_left x c.above.new.cells) c.cell.ensures) front

pub returns-clause-nodes : goal.returns-clause-nodes
returns-clause-nodes c = let nodes = c.in_ok-left.ensures.nodes in (nodes.0, nodes.1, nodes.3)
