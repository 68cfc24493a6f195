-- A node under it has a leaf at it or under it.
use Rattle.std.proofs.Common.{arith, ltb-true}
use Rattle.radix_node.specs.Node.{edges_of, plain_node}
use Rattle.radix_txn.proofs.ChildShape.{edges_occupied}
use Rattle.radix_txn.proofs.remove.has_leaves.Goals as goal

pub returns-in-None-clause-some : goal.returns-in-None-clause-some
returns-in-None-clause-some c more =
    let n = plain_node c.args.node.now in
    let some = ltb-true 0 c.len.result more in
    edges_occupied n.leaf n.under (edges_of c.edges.result.now) c.requires c.edges.ensures.edges (omega (arith, some, c.len.ensures))
