-- Look-up on the nodes of a radix tree.
use Rattle.std.specs.Prelude.{ℕ, List, [], ◌∷◌, Option, None}
use Rattle.std.specs.FinMap.Entries.{by_order}
use Rattle.mdb_datum.specs.Row.{Pair}
use Rattle.radix_node.specs.Nodes.{Nodes, no_nodes, node, Plain, part, first_order}

-- what a node answers, where its prefix goes on by p after what it has in common with the rest of
-- the key, and the rest goes on by k: its leaf at the end of both, and what is found under it at
-- the end of the prefix alone
abbrev pub found : List ℕ → List ℕ → Option Pair → Option Pair → Option Pair
found (y ∷ p) k leaf below = None
found [] [] leaf below = leaf
found [] (x ∷ k) leaf below = below

-- the leaf at the end of the rest of a key, which is not empty
abbrev pub seek : List ℕ → Nodes → Option Pair
seek rest no_nodes = None
seek rest (node prefix leaf under later) =
    let parts = part prefix rest in
    by_order (first_order rest prefix) None (found parts.1 parts.2 leaf (seek parts.2 under)) (seek rest later)

-- the leaf of a key
abbrev pub seek_plain : List ℕ → Plain → Option Pair
seek_plain [] t = t.leaf
seek_plain (x ∷ key) t = seek (x ∷ key) t.nodes
