-- How many nodes there are: a measure of what goes down to each of them.
use Rattle.std.proofs.Common.{◌<◌, ◌+◌, ◌++◌, ◌∷◌, ℕ, List, [], map, arith}
use Rattle.radix_node.specs.Node.{nodes_in, edge_node, plain_edge}
use Rattle.radix_node.specs.Nodes.{Nodes, no_nodes, node}
use Rattle.radix_node.specs.declared.edge.Edge.{Edge}

abbrev pub size : Nodes → ℕ
size no_nodes = 0
size (node prefix leaf under later) = 1 + (size under + size later)

-- the nodes that edges lead to, and those under them
abbrev pub size_at : List Edge → ℕ
size_at es = size (nodes_in (map edge_node es))

-- there are fewer under one of them
pub size_within : (before after : List Edge) (e : Edge) → size (plain_edge e).node.under + size_at before < size_at (before ++ e ∷ after)
size_within [] after e = omega arith
size_within (d ∷ before) after e = omega (arith, size_within before after e)
