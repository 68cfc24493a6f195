-- The last edge leads on.
use Rattle.radix_node.specs.Node.{plain_node}
use Rattle.radix_iter.proofs.EndSteps.{last_edge, last_smaller}
use Rattle.radix_iter.proofs.ends.last_leaf.Goals as goal

pub loop-edge-smaller : goal.loop-edge-smaller
loop-edge-smaller c =
    last_smaller _ (plain_node c.loop-edge.node.now) c.loop-edge.invariant
    c.edges_under.result.now c.edges_under.ensures c.in-Some.edge.now c.in-Some.ensures.value (plain_node c.node-node.result.now) c.node-node.ensures.node

pub loop-edge-preserved : goal.loop-edge-preserved
loop-edge-preserved c =
    last_edge _ (plain_node c.loop-edge.node.now) c.loop-edge.invariant
    c.edges_under.result.now c.edges_under.ensures c.in-Some.edge.now c.in-Some.ensures.value (plain_node c.node-node.result.now) c.node-node.ensures.node
