-- The node leaves, with all under it.
use Rattle.radix_node.specs.CellNode.{cell_node}
use Rattle.radix_txn.specs.inner.Remains.{own_leaf, own_nodes}
use Rattle.radix_txn.proofs.CellRemains.{all_step}
use Rattle.radix_txn.proofs.remove.remove_all.Goals as goal

pub returns-clause-cells : goal.returns-clause-cells
returns-clause-cells c =
    let r = c.nothing.result in
    all_step (cell_node c.args.node.now) (own_leaf r) (own_nodes r) c.args.cells.now c.leave_all.new.self c.in_ok-count.ensures.begun c.nothing.ensures.leaf c.nothing.ensures.nodes c.in_ok-count.ensures.left

pub returns-clause-stays : goal.returns-clause-stays
returns-clause-stays c x h = absurd h
