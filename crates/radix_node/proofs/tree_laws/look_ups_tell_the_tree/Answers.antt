use Rattle.std.proofs.Common.{◌≡◌}
use Rattle.radix_node.specs.Cells.{plain_of}
use Rattle.radix_node.specs.Nodes.{pairs_of}
use Rattle.radix_node.proofs.OneShape.{unique_plain}
use Rattle.radix_node.proofs.PairLaws.{same_pairs}
use Rattle.radix_node.proofs.WholeTree.{rising_plain}
use Rattle.radix_node.proofs.tree_laws.look_ups_tell_the_tree.Goals as goal

pub returns-clause-pairs : goal.returns-clause-pairs
returns-clause-pairs c =
    same_pairs (pairs_of (plain_of c.args.first.now)) (pairs_of (plain_of c.args.second.now))
    (rising_plain (plain_of c.args.first.now) c.root.ensures.shape) (rising_plain (plain_of c.args.second.now) c.root-2.ensures.shape) c.requires

pub returns-clause-nodes : goal.returns-clause-nodes
returns-clause-nodes c =
    let same : pairs_of (plain_of c.args.first.now) ≡ pairs_of (plain_of c.args.second.now) =
    same_pairs (pairs_of (plain_of c.args.first.now)) (pairs_of (plain_of c.args.second.now))
    (rising_plain (plain_of c.args.first.now) c.root.ensures.shape) (rising_plain (plain_of c.args.second.now) c.root-2.ensures.shape) c.requires in
    unique_plain (plain_of c.args.first.now) (plain_of c.args.second.now) c.root.ensures.shape c.root-2.ensures.shape same
