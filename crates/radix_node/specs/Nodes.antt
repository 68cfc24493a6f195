-- The nodes of a radix tree as plain data, without the memory that holds them.
use Rattle.std.specs.Prelude.{ℕ, List, [], ◌∷◌, ◌++◌, Option, Some, None, if◌then◌else◌, nat_eq}
use Rattle.std.specs.declared.cmp.Ordering.{Ordering}
use Rattle.std.specs.declared.cmp.Ordering.TheVariants.{Less, Equal, Greater}
use Rattle.std.specs.Ordering.{nat_cmp}
use Rattle.mdb_datum.specs.Row.{Pair}

-- the nodes under one node, in the order of their edges: the prefix of the first, its leaf if it
-- has one, the nodes under it, and its later siblings
pub data Nodes : Type 0 where
  no_nodes : Nodes
  node : List ℕ → Option Pair → Nodes → Nodes → Nodes

-- a tree: the leaf of the root, whose prefix is empty, and the nodes under it
pub record Plain : Type 0 where
  pub leaf : Option Pair
  pub nodes : Nodes

abbrev pub pairs_of_leaf : Option Pair → List Pair
pairs_of_leaf None = []
pairs_of_leaf (Some pair) = pair ∷ []

-- the pairs of the leaves, each node's own before those under it
abbrev pub pairs_of_nodes : Nodes → List Pair
pairs_of_nodes no_nodes = []
pairs_of_nodes (node prefix leaf under later) = pairs_of_leaf leaf ++ (pairs_of_nodes under ++ pairs_of_nodes later)

-- the pairs of a tree
abbrev pub pairs_of : Plain → List Pair
pairs_of t = pairs_of_leaf t.leaf ++ pairs_of_nodes t.nodes

-- two byte strings as what they begin with together, what the first has after it, and what the
-- second has
abbrev pub part : List ℕ → List ℕ → List ℕ × List ℕ × List ℕ
part [] k = ([], [], k)
part (a ∷ p) [] = ([], a ∷ p, [])
part (a ∷ p) (b ∷ k) = let rest = part p k in if nat_eq a b then (a ∷ rest.0, rest.1, rest.2) else ([], a ∷ p, b ∷ k)

-- the longest common prefix of two byte strings
abbrev pub common : List ℕ → List ℕ → List ℕ
common p k = (part p k).0

-- the order of the first bytes of two byte strings
abbrev pub first_order : List ℕ → List ℕ → Ordering
first_order [] [] = Equal
first_order [] (b ∷ p) = Less
first_order (a ∷ k) [] = Greater
first_order (a ∷ k) (b ∷ p) = nat_cmp a b
