use Rattle.radix_node.specs.Cells.{plain_of}
use Rattle.radix_node.proofs.OneShape.{unique_plain}
use Rattle.radix_node.proofs.tree_laws.pairs_have_one_tree.Goals as goal

pub returns : goal.returns
returns c = unique_plain (plain_of c.args.first.now) (plain_of c.args.second.now) c.root.ensures.shape c.root-2.ensures.shape c.requires
