-- The edges of a node as the list of the nodes that they lead to.
use Rattle.std.specs.Prelude.{ℕ, ◌+◌, ◌<◌, List, [], ◌∷◌, Result, Ok, Err}
use Rattle.std.specs.FinMap.Entries.{by_order}
use Rattle.radix_node.specs.Nodes.{Nodes, no_nodes, node, first_order}
use Rattle.radix_node.specs.Node.{PlainNode}
use Rattle.radix_node.specs.Shape.{FirstBytes}

-- no prefix is empty, and the first bytes of the prefixes rise
abbrev pub EdgesRise : Nodes → Type 0
EdgesRise no_nodes = Unit {0}
EdgesRise (node [] leaf under later) = ⊥
EdgesRise (node (b ∷ prefix) leaf under later) = FirstBytes (λ c. b < c) later × EdgesRise later

-- a place that is further by n
abbrev pub further_by : ℕ → Result ℕ ℕ → Result ℕ ℕ
further_by n (Ok i) = Ok (n + i)
further_by n (Err i) = Err (n + i)

-- the place of the edge of a byte, or else the one where it would go
abbrev pub place_of : ℕ → List PlainNode → Result ℕ ℕ
place_of b [] = Err 0
place_of b (n ∷ ns) = by_order (first_order (b ∷ []) n.prefix) (Err 0) (Ok 0) (further_by 1 (place_of b ns))

-- the edges with one to a node, in place of that with its first byte or as a new one in the order
-- of first bytes
abbrev pub edge_put : PlainNode → List PlainNode → List PlainNode
edge_put n [] = n ∷ []
edge_put n (m ∷ ms) = by_order (first_order n.prefix m.prefix) (n ∷ m ∷ ms) (n ∷ ms) (m ∷ edge_put n ms)
