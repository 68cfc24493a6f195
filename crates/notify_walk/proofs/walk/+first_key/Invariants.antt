use Rattle.radix_node.specs.CellNode.{cell_node}
use Rattle.notify_walk.proofs.Parts.{size}
use Rattle.notify_walk.proofs.walk.+first_key.Given as goal

abbrev pub decreases-first_key : goal.decreases-first_key
decreases-first_key l = size (cell_node l.node.now).under
