use Rattle.radix_node.specs.Edges.{EdgesRise}
use Rattle.radix_node.specs.Node.{nodes_in, edges_of}
use Rattle.tree_tests.proofs.nodes.are_done.Given as goal

-- the edges that were put rise
abbrev pub invariant-loop-step : goal.invariant-loop-step
invariant-loop-step l = EdgesRise (nodes_in (edges_of l.edges))
