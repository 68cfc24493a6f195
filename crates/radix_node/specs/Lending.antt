-- What becomes of a value that lends a part of it to be changed.
use Rattle.std.specs.Prelude.{ℕ, Option}
use Rattle.std.specs.Arc.{arc_with_value}
use Rattle.std.specs.Borrow.{Lends, LendsIf, MutBor, Fml}
use Rattle.std.specs.Vec.{with_item}
use Rattle.radix_node.specs.declared.edge.Edge.{Edge, out-Edge, roll-Edge}
use Rattle.radix_node.specs.declared.edges.Edges.{Edges, out-Edges, roll-Edges}
use Rattle.radix_node.specs.declared.node.Node.{Node, out-Node, roll-Node}
use Rattle.radix_node.specs.declared.node_ref.NodeRef.{NodeRef, out-NodeRef, roll-NodeRef}
use Rattle.radix_node.specs.contracts.edge.Edge as edge
use Rattle.radix_node.specs.contracts.edges.Edges as edges
use Rattle.radix_node.specs.contracts.node.Node as node
use Rattle.radix_node.specs.contracts.node_ref.NodeRef as node_ref

-- the owner with its node changed
abbrev pub with_node : NodeRef → Node → NodeRef
with_node r n = roll-NodeRef (record { node = arc_with_value (out-NodeRef r).node n })

-- the edge with another node
abbrev pub with_ref : Edge → NodeRef → Edge
with_ref e r = roll-Edge (record { label = (out-Edge e).label; node = r })

-- the edges with another one at a place
abbrev pub with_edge : Edges → ℕ → Edge → Edges
with_edge es at e = roll-Edges (record { edges = with_item (out-Edges es).edges at e })

-- the node with other edges
abbrev pub with_edges : Node → Edges → Node
with_edges n es = roll-Node (record { prefix = (out-Node n).prefix; leaf = (out-Node n).leaf; edges = es; cell = (out-Node n).cell })

abbrev pub LendsNode : MutBor NodeRef → Option (MutBor Node) → Fml
LendsNode s r = LendsIf node_ref.the_row node.the_row s r (with_node s.now) s.now

abbrev pub LendsRef : MutBor Edge → MutBor NodeRef → Fml
LendsRef s r = Lends edge.the_row node_ref.the_row s r (with_ref s.now)

abbrev pub LendsEdge : MutBor Edges → ℕ → MutBor Edge → Fml
LendsEdge s at r = Lends edges.the_row edge.the_row s r (with_edge s.now at)

abbrev pub LendsEdges : MutBor Node → MutBor Edges → Fml
LendsEdges s r = Lends node.the_row edges.the_row s r (with_edges s.now)
