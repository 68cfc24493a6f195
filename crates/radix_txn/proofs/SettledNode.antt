-- What is left of a node after a delete, and the edges of the node above.
use Rattle.std.proofs.Common.{◌≡◌, ◌+◌, ◌^◌, ◌<◌, ◌≤◌, ◌++◌, ◌∷◌, ◌∙◌, ℕ, true, false, List, [], length, Option, Some, None, is_some, option_map, refl, sym, ap, arith, Fits, w64}
use Rattle.std.proofs.lemmas.List.{length-map}
use Rattle.std.specs.List.{slice_get}
use Rattle.mdb_datum.specs.Row.{Pair}
use Rattle.radix_node.specs.Nodes.{Nodes, no_nodes, node}
use Rattle.radix_node.specs.Shape.{IsBranching, width}
use Rattle.radix_node.specs.Node.{PlainNode, nodes_in, edges_of, edge_node}
use Rattle.radix_node.specs.Siblings.{nodes_list}
use Rattle.radix_node.specs.declared.edges.Edges.{Edges, out-Edges}
use Rattle.radix_node.proofs.Levels.{nodes_list_in, edges_out}
use Rattle.radix_txn.specs.inner.Below.{settled_node}

pub settled_leaf : (prefix : List ℕ) (leaf : Option Pair) (under : Nodes) → is_some leaf ≡ true → settled_node prefix leaf under ≡ Some (record { prefix = prefix; leaf = leaf; under = under })
settled_leaf prefix (Some pair) under e = refl
settled_leaf prefix None under e = cc

pub settled_wide : (prefix : List ℕ) (leaf : Option Pair) (es : List PlainNode) → 1 < length es → settled_node prefix leaf (nodes_in es) ≡ Some (record { prefix = prefix; leaf = leaf; under = nodes_in es })
settled_wide prefix (Some pair) es h = refl
settled_wide prefix None [] h = absurd (omega arith)
settled_wide prefix None (e ∷ []) h = absurd (omega arith)
settled_wide prefix None (e ∷ f ∷ es) h = refl

-- a node that branches as one of a shaped tree does stays as it is
pub settled_branching : (prefix : List ℕ) (leaf : Option Pair) (under : Nodes) → IsBranching leaf under → settled_node prefix leaf under ≡ Some (record { prefix = prefix; leaf = leaf; under = under })
settled_branching prefix (Some pair) under h = refl
settled_branching prefix None no_nodes h = absurd (omega (arith, h))
settled_branching prefix None (node q leaf under no_nodes) h = absurd (omega (arith, h))
settled_branching prefix None (node q leaf under (node r leaf_2 under_2 rest)) h = refl

-- and so does one with its leaf and as many edges
pub branching_like : (leaf : Option Pair) (u v : Nodes) → width v ≡ width u → IsBranching leaf u → IsBranching leaf v
branching_like (Some pair) u v same h = tt
branching_like None u v same h = omega (arith, same, h)

pub merged_one : (prefix : List ℕ) (es : List PlainNode) (n : PlainNode) → length es ≤ 1 → Some n ≡ slice_get es 0 → settled_node prefix None (nodes_in es) ≡ Some (record { prefix = prefix ++ n.prefix; leaf = n.leaf; under = n.under })
merged_one prefix [] n le e = cc
merged_one prefix (m ∷ []) n le e = let same : n ≡ m = cc in ap (λ (z : PlainNode). Some (let w : PlainNode = record { prefix = prefix ++ z.prefix; leaf = z.leaf; under = z.under } in w)) (sym same)
merged_one prefix (m ∷ o ∷ es) n le e = absurd (omega arith)

pub merged_none : (prefix : List ℕ) (es : List PlainNode) → None ≡ slice_get es 0 → settled_node prefix None (nodes_in es) ≡ None
merged_none prefix [] e = refl
merged_none prefix (m ∷ es) e = cc

-- the edges of a node, as the list of the nodes under it
pub list_of : (es : List PlainNode) (under : Nodes) → nodes_in es ≡ under → es ≡ nodes_list under
list_of es under e = sym (nodes_list_in es) ∙ ap nodes_list e

-- a list in memory has fewer than 2^64 items
pub edges_short : (e : Edges) → length (edges_of e) < 2 ^ 64
edges_short e =
    let v = (out-Edges e).edges in
    let same : length (edges_of e) ≡ length v.items = ap length (edges_out e) ∙ length-map v.items edge_node in
    omega (arith, v.ok.0, v.ok.1, v.small)

pub next_fits : (at : ℕ) (e : Edges) (under : Nodes) → nodes_in (edges_of e) ≡ under → at < length (nodes_list under) → Fits w64 (at + 1)
next_fits at e under is lt = omega (arith, edges_short e, ap length (list_of (edges_of e) under is))

pub within : (at : ℕ) (e : Edges) (under : Nodes) → nodes_in (edges_of e) ≡ under → at < length (nodes_list under) → at + 1 ≤ length (edges_of e)
within at e under is lt = omega (arith, ap length (list_of (edges_of e) under is))

pub some_map : {A B : Type 0} (f : A → B) (o : Option A) → true ≡ is_some o → is_some (option_map f o) ≡ true
some_map f None e = cc
some_map f (Some x) e = refl

pub none_map : {A B : Type 0} (f : A → B) (o : Option A) → false ≡ is_some o → option_map f o ≡ None
none_map f None e = refl
none_map f (Some x) e = cc
