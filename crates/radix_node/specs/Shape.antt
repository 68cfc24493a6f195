-- The shape of a radix tree, in which a list of pairs has one tree.
use Rattle.std.specs.Prelude.{◌≡◌, ℕ, suc, ◌<◌, ◌≤◌, List, [], ◌∷◌, ◌++◌, Option, Some, None}
use Rattle.mdb_datum.specs.Row.{Pair}
use Rattle.radix_node.specs.Nodes.{Nodes, no_nodes, node, Plain}

-- how many edges lead to the nodes
abbrev pub width : Nodes → ℕ
width no_nodes = 0
width (node prefix leaf under later) = suc (width later)

-- each prefix begins with a byte of which P holds
abbrev pub FirstBytes : (ℕ → Type 0) → Nodes → Type 0
FirstBytes P no_nodes = Unit {0}
FirstBytes P (node [] leaf under later) = ⊥
FirstBytes P (node (b ∷ prefix) leaf under later) = P b × FirstBytes P later

-- a leaf's key is the path of its node
abbrev pub IsKeyed : List ℕ → Option Pair → Type 0
IsKeyed path None = Unit {0}
IsKeyed path (Some pair) = pair.0 ≡ path

-- a node has a leaf or at least two edges
abbrev pub IsBranching : Option Pair → Nodes → Type 0
IsBranching (Some pair) under = Unit {0}
IsBranching None under = 2 ≤ width under

-- the nodes under a node with this path: no prefix is empty, first bytes differ and rise, each node
-- has a leaf or two edges, and a leaf's key is the path of its node
abbrev pub IsShaped : List ℕ → Nodes → Type 0
IsShaped path no_nodes = Unit {0}
IsShaped path (node [] leaf under later) = ⊥
IsShaped path (node (b ∷ prefix) leaf under later) = record {
  keyed : IsKeyed (path ++ b ∷ prefix) leaf;
  branching : IsBranching leaf under;
  under : IsShaped (path ++ b ∷ prefix) under;
  apart : FirstBytes (λ c. b < c) later;
  later : IsShaped path later;
}

-- a tree has the shape
pub record HasShape (t : Plain) : Type 0 where
  pub keyed : IsKeyed [] t.leaf
  pub nodes : IsShaped [] t.nodes
