-- The leaf goes into a new node, and the old leaf and node leave.
use Rattle.std.proofs.Common.{◌∙◌, ap, subst}
use Rattle.std.specs.Arc.{arc_value}
use Rattle.radix_node.specs.CellNode.{cell_node, cell_ref}
use Rattle.radix_node.specs.Cells.{CellNode}
use Rattle.radix_txn.specs.inner.Steps.{IsNextOf, Ledger, one_drawn, one_left}
use Rattle.radix_txn.proofs.CellInserts.{leaf_step}
use Rattle.radix_txn.proofs.EditStays.{end_stays}
use Rattle.radix_txn.proofs.insert.replace_leaf.Goals as goal

pub returns-clause-cells : goal.returns-clause-cells
returns-clause-cells c =
    let n = cell_node c.args.node.now in
    let made = c.in_ok-node.ensures.cells in
    let left = c.in_ok-leave_leaf.ensures.left in
    leaf_step (arc_value c.args.leaf) n (cell_ref c.in_ok-node.node) made.0 c.args.cells.now _ c.in_ok-leave_leaf.ensures.begun (subst (λ (l : Ledger). IsNextOf l made.0) left made.1) made.2
    (c.in_ok-node.ensures.left ∙ ap (λ (l : Ledger). one_left n.cell (one_drawn l)) left)

pub returns-clause-stays : goal.returns-clause-stays
returns-clause-stays c = end_stays (cell_node c.args.node.now) (cell_ref c.in_ok-node.node) (ap (λ (n : CellNode). n.under) c.in_ok-node.ensures.cells.2)
