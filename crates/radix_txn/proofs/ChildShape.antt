-- The nodes under a node of a shaped tree.
use Rattle.std.proofs.Common.{◌≡◌, ◌<◌, ◌++◌, ◌∷◌, ℕ, zero, suc, List, [], length, Option, Some, None, refl, sym, subst, arith, length-append}
use Rattle.std.specs.List.{slice_get}
use Rattle.mdb_datum.specs.Row.{Pair}
use Rattle.radix_node.specs.Nodes.{Nodes, no_nodes, node, Plain, pairs_of_leaf, pairs_of_nodes, pairs_of}
use Rattle.radix_node.specs.Shape.{IsShaped, IsBranching, HasShape}
use Rattle.radix_node.specs.Edges.{EdgesRise}
use Rattle.radix_node.specs.Node.{PlainNode, nodes_in, below}
use Rattle.radix_node.proofs.EdgeSearch.{rise_from_shape}
use Rattle.radix_txn.specs.inner.Below.{IsShapedBelow}

-- what is under it has the shape, it has a leaf or two edges, and there is a leaf at it or under it
pub record IsChild (n : PlainNode) : Type 0 where
  pub under : IsShapedBelow n.under
  pub branching : IsBranching n.leaf n.under
  pub occupied : 0 < length (pairs_of (below n))

-- a node has a leaf, or there is one under it
occupied_node : (path : List ℕ) (p : List ℕ) (leaf : Option Pair) (under : Nodes) → IsShaped path under → IsBranching leaf under → 0 < length (pairs_of_leaf leaf ++ pairs_of_nodes under)
occupied_node path p (Some pair) under s h = omega (arith, length-append (pair ∷ []) (pairs_of_nodes under))
occupied_node path p None no_nodes s h = absurd (omega arith)
occupied_node path p None (node [] leaf under later) s h = absurd s
occupied_node path p None (node (b ∷ q) leaf under later) s h =
    let inner : 0 < length (pairs_of_leaf leaf ++ pairs_of_nodes under) = occupied_node (path ++ b ∷ q) (b ∷ q) leaf under s.under s.branching in
    omega (arith, inner, length-append (pairs_of_leaf leaf) (pairs_of_nodes under), length-append (pairs_of_leaf leaf) (pairs_of_nodes under ++ pairs_of_nodes later), length-append (pairs_of_nodes under) (pairs_of_nodes later))

-- there are edges
pub edges_occupied : (leaf : Option Pair) (under : Nodes) (es : List PlainNode) → IsShapedBelow under → nodes_in es ≡ under → 0 < length es → 0 < length (pairs_of_leaf leaf ++ pairs_of_nodes under)
edges_occupied leaf no_nodes [] s is h = absurd (omega arith)
edges_occupied leaf no_nodes (m ∷ es) s is h = cc
edges_occupied leaf (node [] l under later) es s is h = absurd s.shaped
edges_occupied leaf (node (b ∷ q) l under later) es s is h =
    let inner : 0 < length (pairs_of_leaf l ++ pairs_of_nodes under) = occupied_node (s.path ++ b ∷ q) (b ∷ q) l under s.shaped.under s.shaped.branching in
    omega (arith, inner, length-append (pairs_of_leaf leaf) (pairs_of_nodes (node (b ∷ q) l under later)), length-append (pairs_of_leaf l) (pairs_of_nodes under), length-append (pairs_of_leaf l) (pairs_of_nodes under ++ pairs_of_nodes later), length-append (pairs_of_nodes under) (pairs_of_nodes later))

child_here : (path : List ℕ) (m n : PlainNode) (b : ℕ) (p : List ℕ) → m.prefix ≡ b ∷ p → IsShaped (path ++ b ∷ p) m.under → IsBranching m.leaf m.under → Some m ≡ Some n → IsChild n
child_here path m n b p is s h e = let same : m ≡ n = cc in subst IsChild same (record { under = record { path = path ++ b ∷ p; shaped = s }; branching = h; occupied = occupied_node (path ++ b ∷ p) (b ∷ p) m.leaf m.under s h })

child_of : (path q : List ℕ) (m : PlainNode) (es : List PlainNode) (at : ℕ) (n : PlainNode) → IsShaped path (node q m.leaf m.under (nodes_in es)) → slice_get (m ∷ es) at ≡ Some n → m.prefix ≡ q → ((at : ℕ) → IsShaped path (nodes_in es) → slice_get es at ≡ Some n → IsChild n) → IsChild n
child_of path [] m es at n s e is later = absurd s
child_of path (b ∷ p) m es zero n s e is later = child_here path m n b p is s.under s.branching e
child_of path (b ∷ p) m es (suc at) n s e is later = later at s.later e

child_in : (path : List ℕ) (es : List PlainNode) (at : ℕ) (n : PlainNode) → IsShaped path (nodes_in es) → slice_get es at ≡ Some n → IsChild n
child_in path [] at n s e = cc
child_in path (m ∷ es) at n s e = child_of path m.prefix m es at n s e refl (λ i t f. child_in path es i n t f)

-- the node at a place
pub child_at : (under : Nodes) (es : List PlainNode) (at : ℕ) (n : PlainNode) → IsShapedBelow under → nodes_in es ≡ under → Some n ≡ slice_get es at → IsChild n
child_at under es at n s is e = child_in s.path es at n (subst (λ (z : Nodes). IsShaped s.path z) (sym is) s.shaped) (sym e)

-- a search among the edges may be made
pub rises : (under : Nodes) (es : List PlainNode) → IsShapedBelow under → nodes_in es ≡ under → EdgesRise (nodes_in es)
rises under es s is = subst EdgesRise (sym is) (rise_from_shape s.path under s.shaped)

-- the nodes under the root
pub shaped_root : (t : Plain) → HasShape t → IsShapedBelow t.nodes
shaped_root t s = record { path = []; shaped = s.nodes }
