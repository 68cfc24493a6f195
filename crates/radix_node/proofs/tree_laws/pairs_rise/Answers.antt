use Rattle.radix_node.specs.Cells.{plain_of}
use Rattle.radix_node.proofs.WholeTree.{rising_plain}
use Rattle.radix_node.proofs.tree_laws.pairs_rise.Goals as goal

pub returns : goal.returns
returns c = rising_plain (plain_of c.args.tree.now) c.root.ensures.shape
