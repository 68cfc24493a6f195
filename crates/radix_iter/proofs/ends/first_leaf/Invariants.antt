use Rattle.mdb_datum.specs.Pairs.{first_item}
use Rattle.radix_node.specs.Node.{below_prefix, plain_node}
use Rattle.radix_node.specs.Nodes.{pairs_of}
use Rattle.radix_iter.proofs.EndSteps.{IsFirstAt}
use Rattle.radix_iter.proofs.NodeCount.{size}
use Rattle.radix_iter.proofs.ends.first_leaf.Given as goal

-- the first pair under this node is the first of all
abbrev pub invariant-loop-node : goal.invariant-loop-node
invariant-loop-node l = IsFirstAt (first_item (pairs_of (below_prefix l.top))) (plain_node l.node)

abbrev pub decreases-loop-node : goal.decreases-loop-node
decreases-loop-node l = size (plain_node l.node).under
