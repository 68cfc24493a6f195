-- The tree is the new one.
use Rattle.std.proofs.Common.{sym, subst}
use Rattle.radix_node.specs.Cells.{CellTree, pieces_of, root_of}
use Rattle.radix_txn.specs.declared.target.Target.TheVariants.{Key}
use Rattle.radix_txn.specs.inner.Outside.{AllIn, outside_node}
use Rattle.radix_txn.proofs.Results.{on_ok_of}
use Rattle.radix_txn.proofs.txn.writes.put_with.Goals as goal

pub returns-in-Ok-clause-stays : goal.returns-in-Ok-clause-stays
returns-in-Ok-clause-stays c =
    let key = c.args.key.now in
    let stays : AllIn (outside_node Key key (root_of c.replace-tree.result)) (pieces_of c.tree_with-tree.result.tree) = on_ok_of _ _ _ c.in-Ok.is c.tree_with-tree.ensures.stays in
    subst (λ (t : CellTree). AllIn (outside_node Key key (root_of c.args.state.now.tree)) (pieces_of t)) (sym c.settle.ensures.tree)
    (subst (λ (t : CellTree). AllIn (outside_node Key key (root_of t)) (pieces_of c.tree_with-tree.result.tree)) c.replace-tree.ensures.value stays)
