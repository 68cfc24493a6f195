use Rattle.radix_node.specs.Cells.{plain_of}
use Rattle.radix_node.proofs.PathOrder.{paths_rise}
use Rattle.radix_node.proofs.WholeTree.{paths_plain}
use Rattle.radix_node.proofs.tree_laws.paths_are_told_by_the_keys.Goals as goal

pub returns-clause-told : goal.returns-clause-told
returns-clause-told c = paths_plain (plain_of c.args.tree.now) c.root.ensures.shape

pub returns-clause-rising : goal.returns-clause-rising
returns-clause-rising c = paths_rise (plain_of c.args.tree.now) c.root.ensures.shape
