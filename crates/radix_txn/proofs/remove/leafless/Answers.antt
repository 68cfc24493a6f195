-- The leaf leaves, and the node.
use Rattle.std.proofs.Common.{◌∙◌, ap}
use Rattle.radix_node.specs.CellNode.{cell_node}
use Rattle.watch_word.specs.Logs.{Cell}
use Rattle.radix_txn.specs.inner.Remains.{own_leaf, own_nodes}
use Rattle.radix_txn.specs.inner.Steps.{one_left}
use Rattle.radix_txn.proofs.CellRemains.{leafless_step}
use Rattle.radix_txn.proofs.EditStays.{leafless_stays}
use Rattle.std.proofs.lemmas.Result.{IfOk-weaker}
use Rattle.radix_txn.proofs.Results.{if_both}
use Rattle.radix_txn.proofs.remove.leafless.Goals as goal

pub returns-clause-cells : goal.returns-clause-cells
returns-clause-cells c =
    if_both c.without_leaf.result _ _ _ (λ r leaf nodes. leafless_step (cell_node c.args.node.now) c.args.leaf.now (own_leaf r) (own_nodes r) c.args.cells.now c.leave-2.new.self c.in_ok-leave.ensures.begun c.requires leaf nodes
    (c.in_ok-leave-2.ensures.left ∙ (λ i. one_left (c.cell-2.ensures i) ((c.in_ok-leave.ensures.left ∙ ap (λ (x : Cell). one_left x c.args.cells.now) c.cell.ensures) i)))) c.without_leaf.ensures.leaf c.without_leaf.ensures.nodes

pub returns-clause-stays : goal.returns-clause-stays
returns-clause-stays c =
    IfOk-weaker c.without_leaf.result _ _ (λ r nodes. leafless_stays (cell_node c.args.node.now) (own_leaf r) (own_nodes r) nodes) c.without_leaf.ensures.nodes
