-- One level of what stands in memory.
use Rattle.std.proofs.Common.{◌≡◌, ◌∷◌, ◌∙◌, ℕ, List, [], map, option_map, refl, sym, ap}
use Rattle.std.specs.Arc.{arc_value}
use Rattle.radix_node.specs.Nodes.{first_order}
use Rattle.radix_node.specs.Node.{PlainEdge, PlainNode, leaf_pair, nodes_in, edge_step, edges_step, node_step, ref_step, plain_edge, edges_of, plain_node, node_of, edge_node, labelled}
use Rattle.radix_node.specs.Siblings.{nodes_list}
use Rattle.radix_node.specs.declared.edge.Edge.{Edge, Edge-F, out-Edge, roll-Edge, fold_out-Edge, fold-roll-Edge}
use Rattle.radix_node.specs.declared.edges.Edges.{Edges, Edges-F, out-Edges, roll-Edges, fold_out-Edges, fold-roll-Edges}
use Rattle.radix_node.specs.declared.node.Node.{Node, Node-F, out-Node, roll-Node, fold_out-Node, fold-roll-Node}
use Rattle.radix_node.specs.declared.node_ref.NodeRef.{NodeRef, NodeRef-F, out-NodeRef, roll-NodeRef, fold_out-NodeRef, fold-roll-NodeRef}

-- ---- opened

edge_out : (e : Edge) → plain_edge e ≡ record { label = (out-Edge e).label; node = node_of (out-Edge e).node }
edge_out e = fold_out-Edge PlainEdge (List PlainNode) PlainNode PlainNode edge_step edges_step node_step ref_step e

pub out_label : (e : Edge) → (out-Edge e).label ≡ (plain_edge e).label
out_label e = sym (ap (λ (p : PlainEdge). p.label) (edge_out e))

pub out_node : (e : Edge) → node_of (out-Edge e).node ≡ (plain_edge e).node
out_node e = sym (ap (λ (p : PlainEdge). p.node) (edge_out e))

edges_opened : (es : List Edge) → map labelled (map plain_edge es) ≡ map edge_node es
edges_opened [] = refl
edges_opened (e ∷ es) = ap (λ (ns : List PlainNode). edge_node e ∷ ns) (edges_opened es)

pub edges_out : (e : Edges) → edges_of e ≡ map edge_node (out-Edges e).edges.items
edges_out e = fold_out-Edges PlainEdge (List PlainNode) PlainNode PlainNode edge_step edges_step node_step ref_step e ∙ edges_opened (out-Edges e).edges.items

pub node_out : (n : Node) → plain_node n ≡ record { prefix = (out-Node n).prefix.items; leaf = option_map leaf_pair (out-Node n).leaf; under = nodes_in (edges_of (out-Node n).edges) }
node_out n = fold_out-Node PlainEdge (List PlainNode) PlainNode PlainNode edge_step edges_step node_step ref_step n

pub ref_out : (r : NodeRef) → plain_node (arc_value (out-NodeRef r).node) ≡ node_of r
ref_out r = sym (fold_out-NodeRef PlainEdge (List PlainNode) PlainNode PlainNode edge_step edges_step node_step ref_step r)

pub out_prefix : (n : Node) → (out-Node n).prefix.items ≡ (plain_node n).prefix
out_prefix n = sym (ap (λ (p : PlainNode). p.prefix) (node_out n))

pub out_leaf : (n : Node) → option_map leaf_pair (out-Node n).leaf ≡ (plain_node n).leaf
out_leaf n = sym (ap (λ (p : PlainNode). p.leaf) (node_out n))

pub out_under : (n : Node) → nodes_in (edges_of (out-Node n).edges) ≡ (plain_node n).under
out_under n = sym (ap (λ (p : PlainNode). p.under) (node_out n))

-- ---- made

pub edge_roll : (d : Edge-F Edge Edges Node NodeRef) → plain_edge (roll-Edge d) ≡ record { label = d.label; node = node_of d.node }
edge_roll d = fold-roll-Edge PlainEdge (List PlainNode) PlainNode PlainNode edge_step edges_step node_step ref_step d

pub edges_roll : (d : Edges-F Edge Edges Node NodeRef) → edges_of (roll-Edges d) ≡ map edge_node d.edges.items
edges_roll d = fold-roll-Edges PlainEdge (List PlainNode) PlainNode PlainNode edge_step edges_step node_step ref_step d ∙ edges_opened d.edges.items

pub node_roll : (d : Node-F Edge Edges Node NodeRef) → plain_node (roll-Node d) ≡ record { prefix = d.prefix.items; leaf = option_map leaf_pair d.leaf; under = nodes_in (edges_of d.edges) }
node_roll d = fold-roll-Node PlainEdge (List PlainNode) PlainNode PlainNode edge_step edges_step node_step ref_step d

pub ref_roll : (d : NodeRef-F Edge Edges Node NodeRef) → node_of (roll-NodeRef d) ≡ plain_node (arc_value d.node)
ref_roll d = fold-roll-NodeRef PlainEdge (List PlainNode) PlainNode PlainNode edge_step edges_step node_step ref_step d

-- ---- nodes side by side

pub nodes_list_in : (ns : List PlainNode) → nodes_list (nodes_in ns) ≡ ns
nodes_list_in [] = refl
nodes_list_in (n ∷ ns) = ap (λ (ms : List PlainNode). n ∷ ms) (nodes_list_in ns)

pub first_byte : (x : ℕ) (k p : List ℕ) → first_order (x ∷ k) p ≡ first_order (x ∷ []) p
first_byte x k [] = refl
first_byte x k (b ∷ p) = refl
