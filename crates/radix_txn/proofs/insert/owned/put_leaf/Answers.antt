use Rattle.std.proofs.Common.{◌∙◌, sym, ap, subst}
use Rattle.std.specs.Arc.{arc_value}
use Rattle.radix_node.specs.CellNode.{cell_node}
use Rattle.radix_node.specs.Cells.{CellLeaf}
use Rattle.radix_node.specs.Node.{PlainNode}
use Rattle.radix_node.proofs.CellLevels.{bare_node}
use Rattle.radix_txn.specs.inner.Below.{row_in}
use Rattle.radix_txn.specs.inner.Steps.{IsNextOf}
use Rattle.radix_txn.proofs.PutSteps.{put_new_leaf}
use Rattle.radix_txn.proofs.insert.owned.put_leaf.Goals as goal

pub returns-clause-put : goal.returns-clause-put
returns-clause-put c =
    let made = c.in_ok-leaf.ensures.leaf in
    put_new_leaf _ (cell_node c.args.node.now) _ (arc_value c.in_ok-leaf.leaf) c.args.cells.now c.in_ok-leaf.ensures.begun c.requires.own c.set_leaf.ensures.cells (ap (λ (l : CellLeaf). l.pair) made.2) _ c.new_leaf.new.cells _
    (c.in_ok-old.ensures ∙ ap (λ (n : PlainNode). row_in n.leaf) (sym (bare_node c.args.node.now)))
    (subst (λ (l : CellLeaf). IsNextOf c.args.cells.now l.cell) (sym made.2) made.1) c.in_ok-leaf.ensures.drawn c.in_ok-leave_leaf.ensures.left
