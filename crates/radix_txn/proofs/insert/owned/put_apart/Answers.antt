use Rattle.std.proofs.Common.{◌≡◌, ◌∙◌, sym, ap, subst}
use Rattle.std.specs.Arc.{arc_value}
use Rattle.radix_node.specs.CellNode.{cell_node, cell_ref}
use Rattle.radix_node.specs.Cells.{CellLeaf}
use Rattle.radix_node.specs.Node.{plain_node}
use Rattle.radix_node.specs.Siblings.{bare}
use Rattle.radix_node.proofs.CellLevels.{bare_ref}
use Rattle.radix_txn.specs.inner.PutAt.{grown_node}
use Rattle.radix_txn.specs.inner.Steps.{IsNextOf}
use Rattle.radix_txn.proofs.PutSteps.{put_parted}
use Rattle.radix_txn.proofs.insert.owned.put_apart.Goals as goal

pub returns-clause-put : goal.returns-clause-put
returns-clause-put c =
    let made = c.in_ok-leaf.ensures.leaf in
    let p : plain_node c.node-2.result.now ≡ bare (cell_ref c.args.slot.now) = c.node-2.ensures.node ∙ sym (bare_ref c.args.slot.now) in
    let q = ap (λ (l : CellLeaf). l.pair) made.2 in
    put_parted _ c.args.rest.now (cell_ref c.args.slot.now) (cell_ref c.in_ok-node.field-0.node) (cell_node c.node-2.result.now) (arc_value c.in_ok-leaf.leaf) _ c.args.cells.now c.new_leaf.new.cells c.insert_apart.new.cells c.node-2.ensures.cells c.in_ok-leaf.ensures.begun
    (subst (λ (l : CellLeaf). IsNextOf c.args.cells.now l.cell) (sym made.2) made.1) c.in_ok-leaf.ensures.drawn c.in_ok-node.ensures.cells c.in_ok-node.ensures.few c.in_ok-node.ensures.onward
    c.requires.apart
    (bare_ref c.in_ok-node.field-0.node ∙ c.in_ok-node.ensures.node ∙ (λ i. grown_node (q i) c.args.rest.now (p i)))
    c.in_ok-node.ensures.old c.in_ok-node.ensures.stays
