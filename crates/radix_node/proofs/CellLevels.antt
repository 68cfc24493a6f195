-- One level of what stands in memory, with its cells, and that without them it is what it was.
use Rattle.std.proofs.Common.{◌≡◌, ◌∷◌, ◌∙◌, List, [], map, Option, Some, None, option_map, refl, sym, ap, subst}
use Rattle.std.specs.Arc.{arc_value}
use Rattle.std.specs.Global.{Global}
use Rattle.std.specs.declared.sync.Arc.{Arc}
use Rattle.radix_node.specs.CellNode.{CellEdge, led, tree_at, cell_edge_step, cell_edges_step, cell_node_step, cell_ref_step, cell_edge, cell_edges, cell_node, cell_ref, led_node}
use Rattle.radix_node.specs.Cells.{CellNode, cells_in, plain_leaf, plain_nodes, plain_of}
use Rattle.radix_node.specs.Node.{PlainEdge, PlainNode, labelled, leaf_pair, below, below_prefix, nodes_in, plain_edge, edges_of, plain_node, node_of, edge_node}
use Rattle.radix_node.specs.Nodes.{node}
use Rattle.radix_node.specs.Siblings.{bare}
use Rattle.radix_node.specs.declared.leaf.Leaf.{Leaf}
use Rattle.radix_node.specs.declared.edge.Edge.{Edge, Edge-F, out-Edge, roll-Edge, fold_out-Edge, fold-roll-Edge}
use Rattle.radix_node.specs.declared.edges.Edges.{Edges, Edges-F, out-Edges, roll-Edges, fold_out-Edges, fold-roll-Edges, ind-Edges}
use Rattle.radix_node.specs.declared.node.Node.{Node, Node-F, out-Node, roll-Node, fold_out-Node, fold-roll-Node, ind-Node}
use Rattle.radix_node.specs.declared.node_ref.NodeRef.{NodeRef, NodeRef-F, out-NodeRef, roll-NodeRef, fold_out-NodeRef, fold-roll-NodeRef, ind-NodeRef}
use Rattle.radix_node.proofs.Levels.{edge_roll, edges_roll, node_roll, ref_roll}

-- ---- opened

cell_edge_out : (e : Edge) → cell_edge e ≡ record { label = (out-Edge e).label; node = cell_ref (out-Edge e).node }
cell_edge_out e = fold_out-Edge CellEdge (List CellNode) CellNode CellNode cell_edge_step cell_edges_step cell_node_step cell_ref_step e

pub out_cell_edge : (e : Edge) → (out-Edge e).label ≡ (cell_edge e).label
out_cell_edge e = sym (ap (λ (p : CellEdge). p.label) (cell_edge_out e))

pub out_cell_node : (e : Edge) → cell_ref (out-Edge e).node ≡ (cell_edge e).node
out_cell_node e = sym (ap (λ (p : CellEdge). p.node) (cell_edge_out e))

cells_opened : (es : List Edge) → map led (map cell_edge es) ≡ map led_node es
cells_opened [] = refl
cells_opened (e ∷ es) = ap (λ (ns : List CellNode). led_node e ∷ ns) (cells_opened es)

pub cell_edges_out : (e : Edges) → cell_edges e ≡ map led_node (out-Edges e).edges.items
cell_edges_out e = fold_out-Edges CellEdge (List CellNode) CellNode CellNode cell_edge_step cell_edges_step cell_node_step cell_ref_step e ∙ cells_opened (out-Edges e).edges.items

cell_node_out : (n : Node) → cell_node n ≡ record { cell = arc_value (out-Node n).cell; prefix = (out-Node n).prefix.items; leaf = option_map arc_value (out-Node n).leaf; under = cells_in (cell_edges (out-Node n).edges) }
cell_node_out n = fold_out-Node CellEdge (List CellNode) CellNode CellNode cell_edge_step cell_edges_step cell_node_step cell_ref_step n

pub cell_ref_out : (r : NodeRef) → cell_node (arc_value (out-NodeRef r).node) ≡ cell_ref r
cell_ref_out r = sym (fold_out-NodeRef CellEdge (List CellNode) CellNode CellNode cell_edge_step cell_edges_step cell_node_step cell_ref_step r)

pub out_cell : (n : Node) → arc_value (out-Node n).cell ≡ (cell_node n).cell
out_cell n = sym (ap (λ (p : CellNode). p.cell) (cell_node_out n))

pub out_cell_leaf : (n : Node) → option_map arc_value (out-Node n).leaf ≡ (cell_node n).leaf
out_cell_leaf n = sym (ap (λ (p : CellNode). p.leaf) (cell_node_out n))

pub out_cell_under : (n : Node) → cells_in (cell_edges (out-Node n).edges) ≡ (cell_node n).under
out_cell_under n = sym (ap (λ (p : CellNode). p.under) (cell_node_out n))

-- ---- made

pub cell_edge_roll : (d : Edge-F Edge Edges Node NodeRef) → cell_edge (roll-Edge d) ≡ record { label = d.label; node = cell_ref d.node }
cell_edge_roll d = fold-roll-Edge CellEdge (List CellNode) CellNode CellNode cell_edge_step cell_edges_step cell_node_step cell_ref_step d

pub cell_edges_roll : (d : Edges-F Edge Edges Node NodeRef) → cell_edges (roll-Edges d) ≡ map led_node d.edges.items
cell_edges_roll d = fold-roll-Edges CellEdge (List CellNode) CellNode CellNode cell_edge_step cell_edges_step cell_node_step cell_ref_step d ∙ cells_opened d.edges.items

pub cell_node_roll : (d : Node-F Edge Edges Node NodeRef) → cell_node (roll-Node d) ≡ record { cell = arc_value d.cell; prefix = d.prefix.items; leaf = option_map arc_value d.leaf; under = cells_in (cell_edges d.edges) }
cell_node_roll d = fold-roll-Node CellEdge (List CellNode) CellNode CellNode cell_edge_step cell_edges_step cell_node_step cell_ref_step d

pub cell_ref_roll : (d : NodeRef-F Edge Edges Node NodeRef) → cell_ref (roll-NodeRef d) ≡ cell_node (arc_value d.node)
cell_ref_roll d = fold-roll-NodeRef CellEdge (List CellNode) CellNode CellNode cell_edge_step cell_edges_step cell_node_step cell_ref_step d

-- ---- without the cells

abbrev bare_edge : CellEdge → PlainEdge
bare_edge e = record { label = e.label; node = bare e.node }

abbrev BareEdge : Edge → Type 0
BareEdge e = bare_edge (cell_edge e) ≡ plain_edge e

abbrev BareEdges : Edges → Type 0
BareEdges e = map bare (cell_edges e) ≡ edges_of e

abbrev BareNode : Node → Type 0
BareNode n = bare (cell_node n) ≡ plain_node n

abbrev BareRef : NodeRef → Type 0
BareRef r = bare (cell_ref r) ≡ node_of r

pub bare_cells : (ns : List CellNode) → plain_nodes (cells_in ns) ≡ nodes_in (map bare ns)
bare_cells [] = refl
bare_cells (n ∷ ns) = ap (node n.prefix (plain_leaf n.leaf) (plain_nodes n.under)) (bare_cells ns)

bare_leaf : (o : Option (Arc Leaf Global)) → plain_leaf (option_map arc_value o) ≡ option_map leaf_pair o
bare_leaf None = refl
bare_leaf (Some a) = refl

bare_list : (es : List ((e : Edge) × BareEdge e)) → map bare (map led_node (map (λ e. e.0) es)) ≡ map edge_node (map (λ e. e.0) es)
bare_list [] = refl
bare_list (e ∷ es) = λ i. labelled (e.1 i) ∷ bare_list es i

edge_level : (d : Edge-F Edge Edges Node NodeRef) → BareRef d.node → BareEdge (roll-Edge d)
edge_level d h = ap bare_edge (cell_edge_roll d) ∙ (λ i. record { label = d.label; node = h i }) ∙ sym (edge_roll d)

edges_level : (d : Edges-F Edge Edges Node NodeRef) → map bare (map led_node d.edges.items) ≡ map edge_node d.edges.items → BareEdges (roll-Edges d)
edges_level d h = ap (map bare) (cell_edges_roll d) ∙ h ∙ sym (edges_roll d)

node_level : (d : Node-F Edge Edges Node NodeRef) → BareEdges d.edges → BareNode (roll-Node d)
node_level d h =
    ap bare (cell_node_roll d)
    ∙ (λ i. record { prefix = d.prefix.items; leaf = bare_leaf d.leaf i; under = (bare_cells (cell_edges d.edges) ∙ ap nodes_in h) i })
    ∙ sym (node_roll d)

ref_level : (d : NodeRef-F Edge Edges Node NodeRef) → BareNode (arc_value d.node) → BareRef (roll-NodeRef d)
ref_level d h = ap bare (cell_ref_roll d) ∙ h ∙ sym (ref_roll d)

-- y is x with the law beside each part
pub bare_node : (n : Node) → BareNode n
bare_node =
    ind-Node BareEdge BareEdges BareNode BareRef
    (λ x y is. edge_level x (subst (λ z. BareRef z.node) is y.node.1))
    (λ x y is. edges_level x (subst (λ z. map bare (map led_node z.edges.items) ≡ map edge_node z.edges.items) is (bare_list y.edges.items)))
    (λ x y is. node_level x (subst (λ z. BareEdges z.edges) is y.edges.1))
    (λ x y is. ref_level x (subst (λ z. BareNode (arc_value z.node)) is (arc_value y.node).1))

pub bare_ref : (r : NodeRef) → BareRef r
bare_ref =
    ind-NodeRef BareEdge BareEdges BareNode BareRef
    (λ x y is. edge_level x (subst (λ z. BareRef z.node) is y.node.1))
    (λ x y is. edges_level x (subst (λ z. map bare (map led_node z.edges.items) ≡ map edge_node z.edges.items) is (bare_list y.edges.items)))
    (λ x y is. node_level x (subst (λ z. BareEdges z.edges) is y.edges.1))
    (λ x y is. ref_level x (subst (λ z. BareNode (arc_value z.node)) is (arc_value y.node).1))

pub bare_edges : (e : Edges) → BareEdges e
bare_edges =
    ind-Edges BareEdge BareEdges BareNode BareRef
    (λ x y is. edge_level x (subst (λ z. BareRef z.node) is y.node.1))
    (λ x y is. edges_level x (subst (λ z. map bare (map led_node z.edges.items) ≡ map edge_node z.edges.items) is (bare_list y.edges.items)))
    (λ x y is. node_level x (subst (λ z. BareEdges z.edges) is y.edges.1))
    (λ x y is. ref_level x (subst (λ z. BareNode (arc_value z.node)) is (arc_value y.node).1))

-- a root as a tree
pub plain_root : (r : NodeRef) → plain_of (tree_at (cell_ref r)) ≡ below (node_of r)
plain_root r = ap below (bare_ref r)

pub plain_under : (n : Node) → below_prefix n ≡ plain_of (tree_at (cell_node n))
plain_under n = sym (ap below (bare_node n))

pub same_prefix : (n : Node) → (plain_node n).prefix ≡ (cell_node n).prefix
same_prefix n = ap (λ (p : PlainNode). p.prefix) (sym (bare_node n))

pub out_cell_prefix : (n : Node) → (out-Node n).prefix.items ≡ (cell_node n).prefix
out_cell_prefix n = sym (ap (λ (p : CellNode). p.prefix) (cell_node_out n))
