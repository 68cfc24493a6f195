-- The paths of a tree's nodes, told by its keys alone.
use Rattle.std.specs.Prelude.{◌≡◌, ◌≢◌, ℕ, List, [], ◌∷◌, ◌++◌, ◌⊎◌}
use Rattle.mdb_datum.specs.Row.{Pair}
use Rattle.radix_node.specs.Nodes.{Nodes, no_nodes, node, Plain, common}

-- an item is in a list
abbrev pub Has : {A : Type 0} → A → List A → Type 0
Has x [] = ⊥
Has x (y ∷ ys) = (x ≡ y) ⊎ Has x ys

-- a pair has the key
abbrev pub HasKey : List ℕ → List Pair → Type 0
HasKey key [] = ⊥
HasKey key (p ∷ ps) = (key ≡ p.0) ⊎ HasKey key ps

-- the paths that a tree of these keys has: the empty string, every key, and the longest common
-- prefix of any two different keys
pub data IsPath (pairs : List Pair) (path : List ℕ) : Type 0 where
  root : path ≡ [] → IsPath pairs path
  whole_key : HasKey path pairs → IsPath pairs path
  shared : (k m : List ℕ) → HasKey k pairs → HasKey m pairs → k ≢ m → path ≡ common k m → IsPath pairs path

-- the paths of the nodes under a path: the joined prefixes
abbrev pub paths_of_nodes : List ℕ → Nodes → List (List ℕ)
paths_of_nodes path no_nodes = []
paths_of_nodes path (node prefix leaf under later) =
    (path ++ prefix) ∷ (paths_of_nodes (path ++ prefix) under ++ paths_of_nodes path later)

-- the paths of a tree's nodes
abbrev pub paths_of_plain : Plain → List (List ℕ)
paths_of_plain t = [] ∷ paths_of_nodes [] t.nodes
