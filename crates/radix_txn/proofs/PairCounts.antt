-- The pairs of nodes around a place, and where a prefix of keys ends within a node's.
use Rattle.std.proofs.Common.{◌≡◌, ◌≢◌, ◌+◌, ◌&&◌, ◌++◌, ◌∷◌, ◌∙◌, ℕ, Bool, true, false, cond, List, [], length, take, drop, Option, Some, None, option_to_list, Ok, refl, sym, ap, arith, append_assoc, length-append}
use Rattle.std.specs.Prelude.{nat_eq}
use Rattle.std.specs.List.{starts_with, slice_get}
use Rattle.std.proofs.lemmas.Bool.{eqb-true, eq-eqb, false_from_ne_true, false≢true}
use Rattle.std.proofs.lemmas.List.{append-nil}
use Rattle.mdb_datum.specs.Row.{Pair}
use Rattle.radix_node.specs.Edges.{place_of}
use Rattle.radix_node.specs.Node.{PlainNode, nodes_in, below}
use Rattle.radix_node.specs.Nodes.{Nodes, no_nodes, node, Plain, part, pairs_of_leaf, pairs_of_nodes, pairs_of}
use Rattle.radix_txn.specs.inner.Below.{settled_node}
use Rattle.radix_txn.proofs.EdgePlaces.{standing, standing_front, standing_back, standing_child}
use Rattle.radix_txn.proofs.InsertSteps.{with_at}

-- ---- a prefix of keys that ends within a node's

abbrev pub is_nil : List ℕ → Bool
is_nil [] = true
is_nil (x ∷ xs) = false

turned : (a b : ℕ) → nat_eq b a ≡ nat_eq a b
turned a b =
    elim (nat_eq a b) as (λ t. nat_eq a b ≡ t → nat_eq b a ≡ t) [
      | true ↦ λ t. eq-eqb b a (sym (eqb-true a b t))
      | false ↦ λ t. false_from_ne_true (nat_eq b a) (λ e. false≢true (sym t ∙ eq-eqb a b (sym (eqb-true b a e))))
    ] refl

pub ends_within : (p k : List ℕ) → starts_with nat_eq p k ≡ is_nil (part p k).2
ends_within [] [] = refl
ends_within [] (b ∷ k) = refl
ends_within (a ∷ p) [] = refl
ends_within (a ∷ p) (b ∷ k) =
    ap (λ t. t && starts_with nat_eq p k) (turned a b)
    ∙ elim (nat_eq a b) as (λ t. (t && starts_with nat_eq p k) ≡ is_nil (let s : List ℕ × List ℕ × List ℕ = cond t (a ∷ (part p k).0, (part p k).1, (part p k).2) ([], a ∷ p, b ∷ k) in s.2)) [
      | true ↦ ends_within p k
      | false ↦ refl
    ]

nil_from : (xs : List ℕ) → is_nil xs ≡ true → xs ≡ []
nil_from [] e = refl
nil_from (x ∷ xs) e = cc

some_from : (xs : List ℕ) → is_nil xs ≡ false → xs ≢ []
some_from [] e f = cc
some_from (x ∷ xs) e f = cc

pub ended : (p k : List ℕ) → starts_with nat_eq p k ≡ true → (part p k).2 ≡ []
ended p k e = nil_from (part p k).2 (sym (ends_within p k) ∙ e)

pub not_ended : (p k : List ℕ) → starts_with nat_eq p k ≡ false → (part p k).2 ≢ []
not_ended p k e = some_from (part p k).2 (sym (ends_within p k) ∙ e)

-- ---- pairs around a place

pub pairs_joined : (ns ms : List PlainNode) → pairs_of_nodes (nodes_in (ns ++ ms)) ≡ pairs_of_nodes (nodes_in ns) ++ pairs_of_nodes (nodes_in ms)
pairs_joined [] ms = refl
pairs_joined (n ∷ ns) ms =
    ap (λ (ps : List Pair). pairs_of_leaf n.leaf ++ (pairs_of_nodes n.under ++ ps)) (pairs_joined ns ms)
    ∙ sym (append_assoc (pairs_of_leaf n.leaf) (pairs_of_nodes n.under ++ pairs_of_nodes (nodes_in ns)) (pairs_of_nodes (nodes_in ms))
    ∙ ap (λ (ps : List Pair). pairs_of_leaf n.leaf ++ ps) (append_assoc (pairs_of_nodes n.under) (pairs_of_nodes (nodes_in ns)) (pairs_of_nodes (nodes_in ms))))

pairs_first : (m : PlainNode) (back : List PlainNode) → pairs_of_nodes (nodes_in (m ∷ back)) ≡ pairs_of (below m) ++ pairs_of_nodes (nodes_in back)
pairs_first m back = sym (append_assoc (pairs_of_leaf m.leaf) (pairs_of_nodes m.under) (pairs_of_nodes (nodes_in back)))

pairs_option : (p : List ℕ) (leaf : Option Pair) (under : Nodes) → pairs_of_nodes (nodes_in (option_to_list (settled_node p leaf under))) ≡ pairs_of_leaf leaf ++ pairs_of_nodes under
pairs_option p (Some pair) under = ap (λ (ps : List Pair). pair ∷ ps) (append-nil (pairs_of_nodes under))
pairs_option p None no_nodes = refl
pairs_option p None (node q leaf under no_nodes) = refl
pairs_option p None (node q leaf under (node r leaf_2 under_2 rest)) = append-nil (pairs_of_nodes (node q leaf under (node r leaf_2 under_2 rest)))

module _ (x : ℕ) (es : List PlainNode) (at : ℕ) (m : PlainNode) (e : Ok at ≡ place_of x es) (there : Some m ≡ slice_get es at) where
  whole : es ≡ take at es ++ m ∷ drop (at + 1) es
  whole =
      let s = standing x es at (sym e) in
      let same : s.child ≡ m = cc (standing_child x es at s, there) in
      s.whole ∙ (λ i. sym (standing_front x es at s) i ++ same i ∷ sym (standing_back x es at s) i)

  pub pairs_here : pairs_of_nodes (nodes_in es) ≡ pairs_of_nodes (nodes_in (take at es)) ++ (pairs_of (below m) ++ pairs_of_nodes (nodes_in (drop (at + 1) es)))
  pairs_here = ap (λ (z : List PlainNode). pairs_of_nodes (nodes_in z)) whole ∙ pairs_joined (take at es) (m ∷ drop (at + 1) es) ∙ ap (λ (ps : List Pair). pairs_of_nodes (nodes_in (take at es)) ++ ps) (pairs_first m (drop (at + 1) es))

pub pairs_settled_at : (es : List PlainNode) (at : ℕ) (p : List ℕ) (t : Plain) → pairs_of_nodes (with_at at (settled_node p t.leaf t.nodes) es) ≡ pairs_of_nodes (nodes_in (take at es)) ++ (pairs_of t ++ pairs_of_nodes (nodes_in (drop (at + 1) es)))
pairs_settled_at es at p t =
    pairs_joined (take at es) (option_to_list (settled_node p t.leaf t.nodes) ++ drop (at + 1) es)
    ∙ ap (λ (ps : List Pair). pairs_of_nodes (nodes_in (take at es)) ++ ps) (pairs_joined (option_to_list (settled_node p t.leaf t.nodes)) (drop (at + 1) es) ∙ ap (λ (ps : List Pair). ps ++ pairs_of_nodes (nodes_in (drop (at + 1) es))) (pairs_option p t.leaf t.nodes))

pub sums : (leaf front here back : List Pair) → length (leaf ++ (front ++ (here ++ back))) ≡ length leaf + (length front + (length here + length back))
sums leaf front here back = omega (arith, length-append leaf (front ++ (here ++ back)), length-append front (here ++ back), length-append here back)
