-- What nodes and edges in memory stand for, with their cells.
use Rattle.std.specs.Prelude.{ℕ, List, [], ◌∷◌, Option, Some, None, map, option_map}
use Rattle.std.specs.Arc.{arc_value}
use Rattle.std.specs.FinMap.Entries.{by_order}
use Rattle.radix_node.specs.Cells.{CellNode, CellNodes, no_cells, celled, CellTree, cells_in}
use Rattle.radix_node.specs.Nodes.{first_order}
use Rattle.radix_node.specs.declared.edge.Edge.{Edge, Edge-F, fold-Edge}
use Rattle.radix_node.specs.declared.edges.Edges.{Edges, Edges-F, fold-Edges}
use Rattle.radix_node.specs.declared.node.Node.{Node, Node-F, fold-Node}
use Rattle.radix_node.specs.declared.node_ref.NodeRef.{NodeRef, NodeRef-F, fold-NodeRef}

-- an edge: the byte that leads to a node, and the node
pub record CellEdge : Type 0 where
  pub label : ℕ
  pub node : CellNode

-- the node of an edge, with the label in front of its prefix
abbrev pub led : CellEdge → CellNode
led e = record { cell = e.node.cell; prefix = e.label ∷ e.node.prefix; leaf = e.node.leaf; under = e.node.under }

-- a node as a tree of its own, without its prefix
abbrev pub tree_at : CellNode → CellTree
tree_at n = record { cell = n.cell; leaf = n.leaf; nodes = n.under }

-- one level in memory, where what is below it has its cells already
abbrev pub cell_edge_step : Edge-F CellEdge (List CellNode) CellNode CellNode → CellEdge
cell_edge_step e = record { label = e.label; node = e.node }

abbrev pub cell_edges_step : Edges-F CellEdge (List CellNode) CellNode CellNode → List CellNode
cell_edges_step e = map led e.edges.items

abbrev pub cell_node_step : Node-F CellEdge (List CellNode) CellNode CellNode → CellNode
cell_node_step n = record { cell = arc_value n.cell; prefix = n.prefix.items; leaf = option_map arc_value n.leaf; under = cells_in n.edges }

abbrev pub cell_ref_step : NodeRef-F CellEdge (List CellNode) CellNode CellNode → CellNode
cell_ref_step r = r.node.value

-- an edge in memory
abbrev pub cell_edge : Edge → CellEdge
cell_edge = fold-Edge CellEdge (List CellNode) CellNode CellNode cell_edge_step cell_edges_step cell_node_step cell_ref_step

-- the nodes that edges lead to, each with its label in front
abbrev pub cell_edges : Edges → List CellNode
cell_edges = fold-Edges CellEdge (List CellNode) CellNode CellNode cell_edge_step cell_edges_step cell_node_step cell_ref_step

-- the node in memory
abbrev pub cell_node : Node → CellNode
cell_node = fold-Node CellEdge (List CellNode) CellNode CellNode cell_edge_step cell_edges_step cell_node_step cell_ref_step

-- the node that a reference shares
abbrev pub cell_ref : NodeRef → CellNode
cell_ref = fold-NodeRef CellEdge (List CellNode) CellNode CellNode cell_edge_step cell_edges_step cell_node_step cell_ref_step

-- the node that an edge leads to, with its label in front
abbrev pub led_node : Edge → CellNode
led_node e = led (cell_edge e)

-- the node whose prefix begins with a byte
abbrev pub cell_edge_of : ℕ → CellNodes → Option CellNode
cell_edge_of b no_cells = None
cell_edge_of b (celled cell prefix leaf under later) =
    by_order (first_order (b ∷ []) prefix)
    None
    (Some (record { cell = cell; prefix = prefix; leaf = leaf; under = under }))
    (cell_edge_of b later)

-- the nodes with one in place of that with its first byte or as a new one in the order of first
-- bytes
abbrev pub cell_put : CellNode → List CellNode → List CellNode
cell_put n [] = n ∷ []
cell_put n (m ∷ ms) = by_order (first_order n.prefix m.prefix) (n ∷ m ∷ ms) (n ∷ ms) (m ∷ cell_put n ms)
