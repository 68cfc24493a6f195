-- The nodes beside the one at the edge of a byte.
use Rattle.std.specs.Prelude.{ℕ, [], ◌∷◌}
use Rattle.std.specs.FinMap.Entries.{by_order}
use Rattle.radix_node.specs.Nodes.{Nodes, no_nodes, node, first_order}

-- the nodes whose prefixes begin with a higher byte
abbrev pub higher : ℕ → Nodes → Nodes
higher b no_nodes = no_nodes
higher b (node prefix leaf under later) =
    by_order (first_order (b ∷ []) prefix) (node prefix leaf under later) later (higher b later)

-- the nodes whose prefixes begin with a lower byte
abbrev pub lower : ℕ → Nodes → Nodes
lower b no_nodes = no_nodes
lower b (node prefix leaf under later) =
    by_order (first_order (b ∷ []) prefix) no_nodes no_nodes (node prefix leaf under (lower b later))
