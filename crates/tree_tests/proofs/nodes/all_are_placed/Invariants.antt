use Rattle.radix_node.specs.Edges.{EdgesRise}
use Rattle.radix_node.specs.Node.{nodes_in, edges_of}
use Rattle.tree_tests.proofs.nodes.all_are_placed.Given as goal

-- the edges that were put rise
abbrev pub invariant-loop-byte : goal.invariant-loop-byte
invariant-loop-byte l = EdgesRise (nodes_in (edges_of l.edges))
