-- Insert and delete on the nodes of a radix tree.
use Rattle.std.specs.Prelude.{ℕ, List, [], ◌∷◌, ◌++◌, Option, Some, None}
use Rattle.std.specs.FinMap.Entries.{by_order}
use Rattle.mdb_datum.specs.Row.{Fields, Pair}
use Rattle.radix_txn.specs.declared.target.Target.{Target}
use Rattle.radix_txn.specs.declared.target.Target.TheVariants.{Key, Prefix}
use Rattle.radix_node.specs.Nodes.{Nodes, no_nodes, node, Plain, part, first_order}

-- ---- insert

-- two nodes in the order of their first bytes
abbrev pub ordered : List ℕ → Option Pair → Nodes → List ℕ → Option Pair → Nodes → Nodes
ordered p leaf under q leaf_2 under_2 =
    by_order (first_order p q) (node p leaf under (node q leaf_2 under_2 no_nodes)) (node q leaf_2 under_2 (node p leaf under no_nodes)) (node q leaf_2 under_2 (node p leaf under no_nodes))

-- the node in place of one that has the prefix `shared` and then p, where the rest of the key is
-- `shared` and then k; `below` is the nodes under it with the pair put there
abbrev pub grown : Pair → List ℕ → List ℕ → List ℕ → Option Pair → Nodes → Nodes → Nodes → Nodes
grown pair shared [] [] leaf under below later = node shared (Some pair) under later
grown pair shared [] (x ∷ k) leaf under below later = node shared leaf below later
grown pair shared (y ∷ p) [] leaf under below later = node shared (Some pair) (node (y ∷ p) leaf under no_nodes) later
grown pair shared (y ∷ p) (x ∷ k) leaf under below later = node shared None (ordered (x ∷ k) (Some pair) no_nodes (y ∷ p) leaf under) later

-- the nodes with a pair at the end of the rest of its key, which is not empty
abbrev pub insert : Pair → List ℕ → Nodes → Nodes
insert pair rest no_nodes = node rest (Some pair) no_nodes no_nodes
insert pair rest (node prefix leaf under later) =
    let parts = part prefix rest in
    by_order (first_order rest prefix)
    (node rest (Some pair) no_nodes (node prefix leaf under later))
    (grown pair parts.0 parts.1 parts.2 leaf under (insert pair parts.2 under) later)
    (node prefix leaf under (insert pair rest later))

-- the tree with a row under a key
abbrev pub insert_plain : List ℕ → Fields → Plain → Plain
insert_plain [] row t = record { leaf = Some ([], row); nodes = t.nodes }
insert_plain (x ∷ key) row t = record { leaf = t.leaf; nodes = insert (x ∷ key, row) (x ∷ key) t.nodes }

-- ---- delete

-- a node after a change under it: without leaf and edges it goes, and without a leaf and with one
-- edge it is merged with the node there
abbrev pub settled : List ℕ → Option Pair → Nodes → Nodes → Nodes
settled prefix (Some pair) under later = node prefix (Some pair) under later
settled prefix None no_nodes later = later
settled prefix None (node q leaf under no_nodes) later = node (prefix ++ q) leaf under later
settled prefix None (node q leaf under (node r leaf_2 under_2 rest)) later = node prefix None (node q leaf under (node r leaf_2 under_2 rest)) later

-- what stays under a node at whose end the key or the prefix ends
abbrev pub ended : Target → Nodes → Nodes
ended Key under = under
ended Prefix under = no_nodes

-- the nodes in place of one from whose prefix the key or the prefix parts by p and k, where `below`
-- is the nodes under it after the delete; a prefix that ends within the node's takes it with all
-- under it
abbrev pub cut : Target → List ℕ → List ℕ → List ℕ → Option Pair → Nodes → Nodes → Nodes → Nodes
cut target [] [] prefix leaf under below later = settled prefix None (ended target under) later
cut target [] (x ∷ k) prefix leaf under below later = settled prefix leaf below later
cut Key (y ∷ p) [] prefix leaf under below later = node prefix leaf under later
cut Prefix (y ∷ p) [] prefix leaf under below later = later
cut target (y ∷ p) (x ∷ k) prefix leaf under below later = node prefix leaf under later

-- the nodes without the leaf at the end of the rest of a key, or without the leaves whose keys go
-- on with the rest, which is not empty
abbrev pub remove : Target → List ℕ → Nodes → Nodes
remove target rest no_nodes = no_nodes
remove target rest (node prefix leaf under later) =
    let parts = part prefix rest in
    by_order (first_order rest prefix)
    (node prefix leaf under later)
    (cut target parts.1 parts.2 prefix leaf under (remove target parts.2 under) later)
    (node prefix leaf under (remove target rest later))

-- the tree without the keys of a target
abbrev pub remove_plain : Target → List ℕ → Plain → Plain
remove_plain target [] t = record { leaf = None; nodes = ended target t.nodes }
remove_plain target (x ∷ key) t = record { leaf = t.leaf; nodes = remove target (x ∷ key) t.nodes }
