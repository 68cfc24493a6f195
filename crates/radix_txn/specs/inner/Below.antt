-- What a node is after a write at or under it.
use Rattle.std.specs.Prelude.{ℕ, List, [], ◌∷◌, ◌++◌, Option, Some, None, option_map}
use Rattle.mdb_datum.specs.Row.{Fields, Pair}
use Rattle.radix_node.specs.Nodes.{Nodes, no_nodes, node, Plain}
use Rattle.radix_node.specs.Node.{PlainNode}
use Rattle.radix_node.specs.Shape.{IsShaped}
use Rattle.radix_txn.specs.inner.Edits.{insert}

-- the row of a pair
abbrev pub row_in : Option Pair → Option Fields
row_in pair = option_map (λ (p : Pair). p.1) pair

-- the nodes have the shape of those under some path
pub record IsShapedBelow (nodes : Nodes) : Type 0 where
  pub path : List ℕ
  pub shaped : IsShaped path nodes

-- the node with another leaf and other nodes under it
abbrev pub over : PlainNode → Plain → PlainNode
over n t = record { prefix = n.prefix; leaf = t.leaf; under = t.nodes }

-- a node with a pair and nothing under it
abbrev pub leaf_node : List ℕ → Pair → PlainNode
leaf_node prefix pair = record { prefix = prefix; leaf = Some pair; under = no_nodes }

-- a tree with a pair at the end of the rest of its key
abbrev pub insert_below : Pair → List ℕ → Plain → Plain
insert_below pair [] t = record { leaf = Some pair; nodes = t.nodes }
insert_below pair (x ∷ k) t = record { leaf = t.leaf; nodes = insert pair (x ∷ k) t.nodes }

-- a node, not the root, of a prefix and a tree: none where the tree is empty, and merged with the
-- node under it where there is no leaf and one edge
abbrev pub settled_node : List ℕ → Option Pair → Nodes → Option PlainNode
settled_node prefix (Some pair) under = Some (record { prefix = prefix; leaf = Some pair; under = under })
settled_node prefix None no_nodes = None
settled_node prefix None (node q leaf under no_nodes) = Some (record { prefix = prefix ++ q; leaf = leaf; under = under })
settled_node prefix None (node q leaf under (node r leaf_2 under_2 rest)) = Some (record { prefix = prefix; leaf = None; under = node q leaf under (node r leaf_2 under_2 rest) })
