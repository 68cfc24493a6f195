-- What nodes and edges in memory stand for.
use Rattle.std.specs.Prelude.{ℕ, List, [], ◌∷◌, Option, Some, None, map, option_map}
use Rattle.std.specs.Arc.{arc_value}
use Rattle.std.specs.Global.{Global}
use Rattle.std.specs.declared.sync.Arc.{Arc}
use Rattle.std.specs.FinMap.Entries.{by_order}
use Rattle.mdb_datum.specs.Bytes.{Bytes}
use Rattle.mdb_datum.specs.Row.{Pair}
use Rattle.radix_node.specs.Nodes.{Nodes, no_nodes, node, Plain, first_order, part, pairs_of}
use Rattle.radix_node.specs.declared.leaf.Leaf.{Leaf}
use Rattle.radix_node.specs.declared.edge.Edge.{Edge, Edge-F, fold-Edge}
use Rattle.radix_node.specs.declared.edges.Edges.{Edges, Edges-F, fold-Edges}
use Rattle.radix_node.specs.declared.node.Node.{Node, Node-F, fold-Node}
use Rattle.radix_node.specs.declared.node_ref.NodeRef.{NodeRef, NodeRef-F, fold-NodeRef}

-- a node as plain data: its prefix, its leaf, and the nodes under it. In memory the prefix is what
-- comes after the label of the edge to the node; among its siblings a node has the label in front
-- of it
pub record PlainNode : Type 0 where
  pub prefix : Bytes
  pub leaf : Option Pair
  pub under : Nodes

-- an edge: the byte that leads to a node, and the node
pub record PlainEdge : Type 0 where
  pub label : ℕ
  pub node : PlainNode

-- the node of an edge, with the label in front of its prefix
abbrev pub labelled : PlainEdge → PlainNode
labelled e = record { prefix = e.label ∷ e.node.prefix; leaf = e.node.leaf; under = e.node.under }

-- nodes side by side
abbrev pub nodes_in : List PlainNode → Nodes
nodes_in [] = no_nodes
nodes_in (n ∷ ns) = node n.prefix n.leaf n.under (nodes_in ns)

-- a node as a tree of its own, without its prefix
abbrev pub below : PlainNode → Plain
below n = record { leaf = n.leaf; nodes = n.under }

-- the pair of a leaf that is shared
abbrev pub leaf_pair : Arc Leaf Global → Pair
leaf_pair l = (arc_value l).pair

-- one level in memory, where what is below it is plain already
abbrev pub edge_step : Edge-F PlainEdge (List PlainNode) PlainNode PlainNode → PlainEdge
edge_step e = record { label = e.label; node = e.node }

abbrev pub edges_step : Edges-F PlainEdge (List PlainNode) PlainNode PlainNode → List PlainNode
edges_step e = map labelled e.edges.items

abbrev pub node_step : Node-F PlainEdge (List PlainNode) PlainNode PlainNode → PlainNode
node_step n = record { prefix = n.prefix.items; leaf = option_map leaf_pair n.leaf; under = nodes_in n.edges }

abbrev pub ref_step : NodeRef-F PlainEdge (List PlainNode) PlainNode PlainNode → PlainNode
ref_step r = r.node.value

-- an edge in memory
abbrev pub plain_edge : Edge → PlainEdge
plain_edge = fold-Edge PlainEdge (List PlainNode) PlainNode PlainNode edge_step edges_step node_step ref_step

-- the nodes that edges lead to, each with its label in front
abbrev pub edges_of : Edges → List PlainNode
edges_of = fold-Edges PlainEdge (List PlainNode) PlainNode PlainNode edge_step edges_step node_step ref_step

-- the node in memory
abbrev pub plain_node : Node → PlainNode
plain_node = fold-Node PlainEdge (List PlainNode) PlainNode PlainNode edge_step edges_step node_step ref_step

-- the node that a reference shares
abbrev pub node_of : NodeRef → PlainNode
node_of = fold-NodeRef PlainEdge (List PlainNode) PlainNode PlainNode edge_step edges_step node_step ref_step

-- the node that an edge leads to, with its label in front
abbrev pub edge_node : Edge → PlainNode
edge_node e = labelled (plain_edge e)

-- the node in memory as a tree of its own
abbrev pub below_prefix : Node → Plain
below_prefix n = below (plain_node n)

-- the node whose prefix begins with a byte
abbrev pub edge_of : ℕ → Nodes → Option PlainNode
edge_of b no_nodes = None
edge_of b (node prefix leaf under later) =
    by_order (first_order (b ∷ []) prefix)
    None
    (Some (record { prefix = prefix; leaf = leaf; under = under }))
    (edge_of b later)

-- what is left of a key after a prefix, if the key begins with it
abbrev pub left_of : Bytes → Bytes → Option Bytes
left_of [] rest = Some rest
left_of (y ∷ p) rest = None

abbrev pub rest_past : Bytes → Bytes → Option Bytes
rest_past prefix rest = let parts = part prefix rest in left_of parts.1 parts.2

-- the pairs of a node and of those under it, if there is a node
abbrev pub pairs_at : Option PlainNode → List Pair
pairs_at None = []
pairs_at (Some n) = pairs_of (below n)
