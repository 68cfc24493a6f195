use Rattle.std.proofs.Common.{◌≡◌, ◌∙◌, sym, ap, subst}
use Rattle.std.specs.Arc.{arc_value}
use Rattle.radix_node.specs.CellNode.{cell_node, cell_ref}
use Rattle.radix_node.specs.Cells.{CellLeaf}
use Rattle.radix_node.specs.Node.{PlainNode, below, plain_node}
use Rattle.radix_node.specs.Seek.{seek_plain}
use Rattle.radix_node.specs.Siblings.{bare}
use Rattle.radix_node.proofs.CellLevels.{bare_ref}
use Rattle.radix_txn.specs.inner.Below.{IsShapedBelow, insert_below, over, row_in}
use Rattle.radix_txn.specs.inner.Steps.{IsNextOf}
use Rattle.radix_txn.proofs.PutSteps.{put_copied}
use Rattle.radix_txn.proofs.insert.owned.put_copy.Goals as goal

pub insert-requires-clause-shape : goal.insert-requires-clause-shape
insert-requires-clause-shape c = subst (λ (p : PlainNode). IsShapedBelow p.under) (bare_ref c.args.slot.now ∙ sym c.node-2.ensures.node) c.requires.shape

pub returns-clause-put : goal.returns-clause-put
returns-clause-put c =
    let made = c.in_ok-leaf.ensures.leaf in
    let p : plain_node c.node-2.result.now ≡ bare (cell_ref c.args.slot.now) = c.node-2.ensures.node ∙ sym (bare_ref c.args.slot.now) in
    let q = ap (λ (l : CellLeaf). l.pair) made.2 in
    put_copied _ c.args.rest.now (cell_ref c.args.slot.now) (cell_ref c.in_ok-node.field-0.node) (cell_node c.node-2.result.now) (arc_value c.in_ok-leaf.leaf) _ c.args.cells.now c.new_leaf.new.cells c.insert.new.cells c.node-2.ensures.cells c.in_ok-leaf.ensures.begun
    (subst (λ (l : CellLeaf). IsNextOf c.args.cells.now l.cell) (sym made.2) made.1) c.in_ok-leaf.ensures.drawn c.in_ok-node.ensures.cells c.in_ok-node.ensures.few c.in_ok-node.ensures.onward
    (bare_ref c.in_ok-node.field-0.node ∙ c.in_ok-node.ensures.node ∙ (λ i. over (p i) (insert_below (q i) c.args.rest.now (below (p i)))))
    (c.in_ok-node.ensures.old ∙ ap (λ (z : PlainNode). row_in (seek_plain c.args.rest.now (below z))) p)
    c.in_ok-node.ensures.stays c.in_ok-node.ensures.fresh
