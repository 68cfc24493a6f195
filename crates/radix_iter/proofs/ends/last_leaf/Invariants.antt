use Rattle.mdb_datum.specs.Pairs.{last_item}
use Rattle.radix_node.specs.Node.{below_prefix, plain_node}
use Rattle.radix_node.specs.Nodes.{pairs_of}
use Rattle.radix_iter.proofs.EndSteps.{IsLastAt}
use Rattle.radix_iter.proofs.NodeCount.{size}
use Rattle.radix_iter.proofs.ends.last_leaf.Given as goal

-- the last pair under this node is the last of all
abbrev pub invariant-loop-edge : goal.invariant-loop-edge
invariant-loop-edge l = IsLastAt (last_item (pairs_of (below_prefix l.top))) (plain_node l.node)

abbrev pub decreases-loop-edge : goal.decreases-loop-edge
decreases-loop-edge l = size (plain_node l.node).under
