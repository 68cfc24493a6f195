-- Something else comes in the root's place.
use Rattle.std.proofs.Common.{subst}
use Rattle.radix_node.specs.CellNode.{cell_ref}
use Rattle.radix_txn.specs.declared.remove.owned.Gone.{Gone}
use Rattle.radix_txn.specs.inner.Gone.{IsGone, IsLeft}
use Rattle.radix_txn.proofs.remove.take_root.Goals as goal

pub returns-in_ok-new_root-in-Left-clause-cut : goal.returns-in_ok-new_root-in-Left-clause-cut
returns-in_ok-new_root-in-Left-clause-cut c =
    let left : IsLeft c.args.target c.args.key.now (cell_ref c.args.root.now) (cell_ref c.take_at.new.slot) c.in-Left.removed c.args.cells.now c.take_at.new.cells =
    subst (λ (g : Gone). IsGone c.args.target c.args.key.now (cell_ref c.args.root.now) (cell_ref c.take_at.new.slot) g c.args.cells.now c.take_at.new.cells) c.in-Left.is c.in_ok-take_at.ensures.gone in
    c.in_ok-new_root-in-Left.ensures.cut c.args.target c.args.key.now (cell_ref c.args.root.now) c.args.cells.now left
