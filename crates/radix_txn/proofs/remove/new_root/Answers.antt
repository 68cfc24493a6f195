-- What is left of the root stands in its place.
use Rattle.std.proofs.Common.{◌∙◌, ap}
use Rattle.radix_node.specs.CellNode.{cell_ref}
use Rattle.radix_node.specs.Node.{below}
use Rattle.radix_node.proofs.CellLevels.{bare_ref}
use Rattle.radix_txn.proofs.TakeTree.{root_cut}
use Rattle.radix_txn.proofs.remove.new_root.Goals as goal

pub returns-clause-cut : goal.returns-clause-cut
returns-clause-cut c target key n old h =
    let made = c.in_ok-root.field-0 in
    let new = c.in_ok-root.ensures.cells in
    root_cut target key n (cell_ref c.args.root.now) (cell_ref made) c.args.removed new.0 old c.args.cells.now c.root.new.cells c.requires.rooted h c.in_ok-root.ensures.begun new.1 new.2
    (ap below (bare_ref made ∙ c.in_ok-root.ensures.plain)) c.in_ok-root.ensures.drawn
