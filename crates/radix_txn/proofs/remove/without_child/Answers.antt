-- The child leaves, with all under it, and then the node.
use Rattle.std.proofs.Common.{◌∙◌, ap}
use Rattle.radix_node.specs.CellNode.{cell_node, led_node}
use Rattle.radix_node.specs.Cells.{CellNode}
use Rattle.radix_node.specs.Left.{all_cells}
use Rattle.watch_word.specs.Logs.{Cell}
use Rattle.radix_txn.specs.inner.Remains.{own_leaf, own_nodes}
use Rattle.radix_txn.specs.inner.Steps.{many_left, one_left}
use Rattle.radix_txn.proofs.CellRemains.{without_step}
use Rattle.radix_txn.proofs.remove.without_child.Goals as goal

pub returns-clause-cells : goal.returns-clause-cells
returns-clause-cells c =
    let r = c.in_ok-without_edge.field-0 in
    without_step (cell_node c.args.node.now) c.args.at (led_node c.args.edge.now) c.requires.there (own_leaf r) (own_nodes r) c.args.cells.now c.leave_all.new.self c.leave.new.self c.in_ok-count.ensures.begun c.in_ok-without_edge.ensures.leaf c.in_ok-without_edge.ensures.nodes
    (c.in_ok-count.ensures.left ∙ ap (λ (n : CellNode). many_left (all_cells n) c.args.cells.now) c.node.ensures.cells)
    (c.in_ok-leave.ensures.left ∙ ap (λ (x : Cell). one_left x c.leave_all.new.self) c.cell.ensures)
