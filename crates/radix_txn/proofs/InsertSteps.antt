-- One level of an insert: the rest of a key begins with a byte, and the edges are searched for it.
use Rattle.std.proofs.Common.{◌≡◌, ◌+◌, ◌<◌, ◌≤◌, ◌++◌, ◌∷◌, ◌∙◌, ℕ, List, [], length, take, drop, Option, Some, None, option_to_list, Ok, Err, refl, sym, ap, arith}
use Rattle.std.specs.List.{slice_get}
use Rattle.mdb_datum.specs.Row.{Pair}
use Rattle.radix_node.specs.Edges.{place_of}
use Rattle.radix_node.specs.Node.{PlainEdge, PlainNode, labelled, nodes_in, below}
use Rattle.radix_node.specs.Nodes.{Nodes, Plain, part}
use Rattle.radix_node.specs.Seek.{seek, seek_plain, found}
use Rattle.radix_node.specs.Siblings.{nodes_list}
use Rattle.radix_node.proofs.EdgeSearch.{edge_at_place, edge_label}
use Rattle.radix_node.proofs.LookupSteps.{led}
use Rattle.radix_node.proofs.Parts.{part_first}
use Rattle.radix_txn.specs.inner.Below.{over, insert_below, leaf_node}
use Rattle.radix_txn.specs.inner.Edits.{insert}
use Rattle.radix_txn.specs.inner.PutAt.{grown_parts, grown_node}
use Rattle.radix_txn.proofs.EdgePlaces.{standing, standing_range, gap, gap_range}
use Rattle.radix_txn.proofs.EditPlaces.{insert_at_place, insert_at_gap, found_at, seek_at_place, seek_at_gap}
use Rattle.radix_txn.proofs.SettledNode.{list_of}

-- a tree of a leaf and nodes
abbrev pub tree_of : Option Pair → Nodes → Plain
tree_of leaf nodes = record { leaf = leaf; nodes = nodes }

-- a node with other nodes under it
abbrev pub under_with : PlainNode → Nodes → PlainNode
under_with n nodes = record { prefix = n.prefix; leaf = n.leaf; under = nodes }

-- the edges around a place, with a node or none between them
abbrev pub with_at : ℕ → Option PlainNode → List PlainNode → Nodes
with_at at n es = nodes_in (take at es ++ (option_to_list n ++ drop (at + 1) es))

-- ---- a byte in front of a node's prefix, and of the rest

-- the node at the edge that was found, with the byte for its label
pub led_there : (x : ℕ) (es : List PlainNode) (at : ℕ) (e : PlainEdge) (c : PlainNode) → slice_get es at ≡ Some (labelled e) → Ok at ≡ place_of x es → c ≡ e.node → slice_get es at ≡ Some (led x c)
led_there x es at e c there found is =
    let label = edge_label x (nodes_in es) e (edge_at_place x (nodes_in es) es at (labelled e) refl there found) in
    there ∙ (λ i. Some (led (label i) (sym is i)))

pub led_prefix : (x : ℕ) (es : List PlainNode) (at : ℕ) (e : PlainEdge) (c : PlainNode) → slice_get es at ≡ Some (labelled e) → Ok at ≡ place_of x es → c ≡ e.node → e.label ∷ e.node.prefix ≡ x ∷ c.prefix
led_prefix x es at e c there found is =
    let label = edge_label x (nodes_in es) e (edge_at_place x (nodes_in es) es at (labelled e) refl there found) in
    λ i. label i ∷ (sym is i).prefix

grown_led : (pair : Pair) (x : ℕ) (s p k : List ℕ) (c : PlainNode) (under : Nodes) → grown_parts pair (x ∷ s) p k (led x c) under ≡ led x (grown_parts pair s p k c under)
grown_led pair x s [] [] c under = refl
grown_led pair x s [] (y ∷ k) c under = refl
grown_led pair x s (z ∷ p) [] c under = refl
grown_led pair x s (z ∷ p) (y ∷ k) c under = refl

pub grown_node_led : (pair : Pair) (x : ℕ) (after : List ℕ) (c : PlainNode) → grown_node pair (x ∷ after) (led x c) ≡ led x (grown_node pair after c)
grown_node_led pair x after c =
    let s = part c.prefix after in
    ap (λ (z : List ℕ × List ℕ × List ℕ). grown_parts pair z.0 z.1 z.2 (led x c) (insert pair z.2 c.under)) (part_first x c.prefix after)
    ∙ grown_led pair x s.0 s.1 s.2 c (insert pair s.2 c.under)

pub found_led : (x : ℕ) (after : List ℕ) (c : PlainNode) → found_at (x ∷ after) (led x c) ≡ found_at after c
found_led x after c = ap (λ (z : List ℕ × List ℕ × List ℕ). found z.1 z.2 c.leaf (seek z.2 c.under)) (part_first x c.prefix after)

-- the same node among the edges of another
pub put_at : (n : PlainNode) (start end : ℕ) {m r : PlainNode} → m ≡ r → (let w : PlainNode = record { prefix = n.prefix; leaf = n.leaf; under = nodes_in (take start (nodes_list n.under) ++ m ∷ drop end (nodes_list n.under)) } in w) ≡ (let w : PlainNode = record { prefix = n.prefix; leaf = n.leaf; under = nodes_in (take start (nodes_list n.under) ++ r ∷ drop end (nodes_list n.under)) } in w)
put_at n start end e = λ i. record { prefix = n.prefix; leaf = n.leaf; under = nodes_in (take start (nodes_list n.under) ++ e i ∷ drop end (nodes_list n.under)) }

-- ---- one level

module _ (x : ℕ) (after : List ℕ) (rest : List ℕ) (first : rest ≡ x ∷ after) (n : PlainNode) (es : List PlainNode) (is : nodes_in es ≡ n.under) where
  pub seek_gap : (at : ℕ) → Err at ≡ place_of x es → seek_plain rest (below n) ≡ None
  seek_gap at e = (λ i. seek_plain (first i) (tree_of n.leaf (sym is i))) ∙ seek_at_gap x after es at (sym e)

  pub gap_within : (at : ℕ) → Err at ≡ place_of x es → at ≤ length (nodes_list n.under)
  gap_within at e = let s = gap x es at (sym e) in omega (arith, gap_range x es at s, ap length (list_of es n.under is))

  pub insert_gap : (pair : Pair) (at : ℕ) (c : PlainNode) → Err at ≡ place_of x es → c ≡ leaf_node after pair → (let w : PlainNode = record { prefix = n.prefix; leaf = n.leaf; under = nodes_in (take at (nodes_list n.under) ++ led x c ∷ drop at (nodes_list n.under)) } in w) ≡ over n (insert_below pair rest (below n))
  insert_gap pair at c e fresh =
      sym ((λ i. over n (insert_below pair (first i) (tree_of n.leaf (sym is i))))
      ∙ ap (under_with n) (insert_at_gap pair x after es at (sym e)
      ∙ (λ i. nodes_in (take at (list_of es n.under is i) ++ led x (sym fresh i) ∷ drop at (list_of es n.under is i)))))

  module _ (at : ℕ) (e : Ok at ≡ place_of x es) where
    pub in_range : at < length (nodes_list n.under)
    in_range = let s = standing x es at (sym e) in omega (arith, standing_range x es at s, ap length (list_of es n.under is))

    module _ (c : PlainNode) (there : slice_get es at ≡ Some (led x c)) where
      pub seeks : seek_plain rest (below n) ≡ found_at after c
      seeks = (λ i. seek_plain (first i) (tree_of n.leaf (sym is i))) ∙ seek_at_place x after es at (led x c) (sym e) there ∙ found_led x after c

      pub insert_onward : (pair : Pair) (r : PlainNode) → r ≡ grown_node pair after c → (let w : PlainNode = record { prefix = n.prefix; leaf = n.leaf; under = nodes_in (take at (nodes_list n.under) ++ led x r ∷ drop (at + 1) (nodes_list n.under)) } in w) ≡ over n (insert_below pair rest (below n))
      insert_onward pair r grown =
          sym ((λ i. over n (insert_below pair (first i) (tree_of n.leaf (sym is i))))
          ∙ ap (under_with n) (insert_at_place pair x after es at (led x c) (sym e) there
          ∙ (λ i. nodes_in (take at (list_of es n.under is i) ++ (grown_node_led pair x after c ∙ ap (led x) (sym grown)) i ∷ drop (at + 1) (list_of es n.under is i)))))
