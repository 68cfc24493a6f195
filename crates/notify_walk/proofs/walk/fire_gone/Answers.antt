-- The root is a node of its tree.
use Rattle.radix_node.specs.CellNode.{cell_node}
use Rattle.notify_walk.proofs.Walked.{root_told}
use Rattle.notify_walk.proofs.walk.fire_gone.Goals as goal

pub returns-clause-told : goal.returns-clause-told
returns-clause-told c =
    root_told (cell_node c.root.result.now) c.args.old.now c.args.new.now c.fire_node.result c.root.ensures.cells c.requires.same c.fire_node.ensures.told
