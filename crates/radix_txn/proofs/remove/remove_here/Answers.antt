-- One key is to go.
use Rattle.std.proofs.Common.{[], IfSome, sym, subst}
use Rattle.radix_node.specs.CellNode.{cell_node}
use Rattle.radix_txn.specs.declared.remove.Removed.{Removed}
use Rattle.radix_txn.specs.declared.target.Target.{Target}
use Rattle.radix_txn.specs.inner.Outside.{AllIn, outside_node}
use Rattle.radix_txn.specs.inner.Remains.{stays_left}
use Rattle.std.proofs.lemmas.Result.{IfOk-weaker}
use Rattle.radix_txn.proofs.remove.remove_here.Goals as goal

pub returns-in-Key-clause-stays : goal.returns-in-Key-clause-stays
returns-in-Key-clause-stays c =
    IfOk-weaker c.remove_leaf.result _ _ (λ o stays. subst (λ (t : Target). IfSome o (λ (r : Removed). AllIn (outside_node t [] (cell_node c.args.node.now)) (stays_left r.remains))) (sym c.in-Key.is) stays) c.remove_leaf.ensures.stays
