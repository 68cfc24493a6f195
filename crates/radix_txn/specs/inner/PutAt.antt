-- A node at which a key that is put parts from the prefix or goes on.
use Rattle.std.specs.Prelude.{ℕ, List, [], ◌∷◌, Some, None}
use Rattle.mdb_datum.specs.Row.{Pair}
use Rattle.radix_node.specs.Nodes.{Nodes, no_nodes, node, part}
use Rattle.radix_node.specs.Node.{PlainNode}
use Rattle.radix_txn.specs.inner.Edits.{insert, ordered}

-- a new node in place of one at which a key and the prefix part
abbrev pub grown_parts : Pair → List ℕ → List ℕ → List ℕ → PlainNode → Nodes → PlainNode
grown_parts pair shared [] [] n below = record { prefix = shared; leaf = Some pair; under = n.under }
grown_parts pair shared [] (x ∷ k) n below = record { prefix = shared; leaf = n.leaf; under = below }
grown_parts pair shared (y ∷ p) [] n below = record { prefix = shared; leaf = Some pair; under = node (y ∷ p) n.leaf n.under no_nodes }
grown_parts pair shared (y ∷ p) (x ∷ k) n below = record { prefix = shared; leaf = None; under = ordered (x ∷ k) (Some pair) no_nodes (y ∷ p) n.leaf n.under }

-- the node with a pair put at the end of the rest of its key, which begins with the prefix's first
-- byte
abbrev pub grown_node : Pair → List ℕ → PlainNode → PlainNode
grown_node pair rest n = let parts = part n.prefix rest in grown_parts pair parts.0 parts.1 parts.2 n (insert pair parts.2 n.under)
