-- The child's leaf and edges stand in a new node, and the child leaves.
use Rattle.std.proofs.Common.{◌∙◌, ap, sym, subst}
use Rattle.radix_node.specs.CellNode.{cell_ref, led_node}
use Rattle.radix_node.specs.Cells.{CellNode}
use Rattle.radix_txn.specs.inner.Pieces.{inside}
use Rattle.radix_txn.specs.inner.Steps.{IsNextOf, one_drawn, one_left}
use Rattle.radix_txn.proofs.CellRemains.{merged_step}
use Rattle.std.proofs.lemmas.Result.{IfOk-weaker}
use Rattle.radix_txn.proofs.Results.{if_both}
use Rattle.radix_txn.proofs.remains.merge_child.Goals as goal

pub returns-clause-cells : goal.returns-clause-cells
returns-clause-cells c =
    let k = led_node c.args.edge.now in
    if_both c.with_prefix.result _ _ _ (λ r made left. merged_step k (cell_ref r) c.args.cells.now c.with_prefix.new.cells c.with_prefix.ensures.begun
    (subst (λ (n : CellNode). IsNextOf c.args.cells.now n.cell) (sym made.2) made.1)
    (ap inside made.2 ∙ ap inside c.node-child.ensures.cells)
    (left ∙ ap (λ (n : CellNode). one_left n.cell (one_drawn c.args.cells.now)) c.node-child.ensures.cells)) c.with_prefix.ensures.cells c.with_prefix.ensures.left

pub returns-clause-stays : goal.returns-clause-stays
returns-clause-stays c = IfOk-weaker c.with_prefix.result _ _ (λ r made. ap inside made.2 ∙ ap inside c.node-child.ensures.cells) c.with_prefix.ensures.cells
