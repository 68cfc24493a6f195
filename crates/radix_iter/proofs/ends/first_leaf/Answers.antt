-- A node without a leaf has a first edge, whose node goes on.
use Rattle.std.proofs.Common.{◌∙◌, ap, not}
use Rattle.radix_node.specs.Node.{plain_node}
use Rattle.radix_iter.proofs.EndSteps.{first_edge}
use Rattle.radix_iter.proofs.ends.first_leaf.Goals as goal

pub loop-node-preserved : goal.loop-node-preserved
loop-node-preserved c =
    first_edge _ (plain_node c.loop-node.node.now) c.loop-node.invariant c.leaf.result c.leaf.ensures.leaf (c.is_none.ensures ∙ ap not c.loop-node-test.true)
    c.edges_under.result.now c.edges_under.ensures c.in_ok-first.field-0.now c.in_ok-first.ensures.value (plain_node c.node-node.result.now) c.node-node.ensures.node
