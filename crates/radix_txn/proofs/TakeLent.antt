-- A delete at the edge of a node, where the node there was lent.
use Rattle.std.proofs.Common.{◌≡◌, ◌+◌, ◌<◌, ◌++◌, ◌∷◌, ◌∙◌, ℕ, [], length, take, drop, Option, Some, sym, ap, arith}
use Rattle.std.specs.List.{slice_get}
use Rattle.mdb_datum.specs.Bytes.{Bytes}
use Rattle.radix_node.specs.CellNode.{cell_edge, cell_edges, cell_node, cell_ref, led_node}
use Rattle.radix_node.specs.Cells.{CellNode, cells_in, plain_nodes}
use Rattle.radix_node.specs.Lending.{with_edge, with_edges, with_ref}
use Rattle.radix_node.specs.Siblings.{bare, cells_list, nodes_list}
use Rattle.radix_node.specs.declared.edge.Edge.{Edge}
use Rattle.radix_node.specs.declared.edges.Edges.{Edges}
use Rattle.radix_node.specs.declared.node.Node.{Node}
use Rattle.radix_node.specs.declared.node_ref.NodeRef.{NodeRef}
use Rattle.radix_txn.specs.inner.Gone.{LeadsOn}
use Rattle.radix_txn.specs.inner.Pieces.{led}
use Rattle.radix_txn.proofs.InsertSteps.{in_range}
use Rattle.radix_txn.proofs.PutSteps.{bare_length, lent_node, lent_same, lent_there, nodes_in_list}

byte_in_front : Bytes → ℕ
byte_in_front [] = 0
byte_in_front (x ∷ p) = x

past_front : Bytes → Bytes
past_front [] = []
past_front (x ∷ p) = p

unled : CellNode → CellNode
unled n = record { cell = n.cell; prefix = past_front n.prefix; leaf = n.leaf; under = n.under }

same_led : (x y : ℕ) (k m : CellNode) → led (x ∷ []) k ≡ led (y ∷ []) m → (x ≡ y) × (k ≡ m)
unfolding byte_in_front past_front unled
same_led x y k m e = (ap (λ (n : CellNode). byte_in_front n.prefix) e, ap unled e)

same_some : (o : Option CellNode) (k m : CellNode) → o ≡ Some k → o ≡ Some m → k ≡ m
same_some o k m e f = cc

-- the walk goes on within the edges
pub leads_within : (place : ℕ) (left rest : Bytes) (n : CellNode) → LeadsOn place left rest n → place < length (cells_list n.under)
leads_within place left rest n w =
    let within = in_range w.label w.after rest w.first (bare n) (nodes_list (plain_nodes n.under)) (nodes_in_list (plain_nodes n.under)) place w.place in
    omega (arith, within, bare_length n.under)

module _ (owner : Node) (es : Edges) (edge : Edge) (place : ℕ) (is : let n = cell_node owner in cells_in (cell_edges es) ≡ n.under) (there : slice_get (cell_edges es) place ≡ Some (led_node edge)) (left rest : Bytes) (w : LeadsOn place left rest (cell_node owner)) where
  both : (w.label ≡ (cell_edge edge).label) × (w.child ≡ (cell_edge edge).node)
  both =
      same_led w.label (cell_edge edge).label w.child (cell_edge edge).node
      (same_some (let n = cell_node owner in slice_get (cells_list n.under) place) (led (w.label ∷ []) w.child) (led ((cell_edge edge).label ∷ []) (cell_edge edge).node) w.there (lent_there owner es edge place is there))

  -- what was lent is the node to which the walk goes on
  pub child_lent : (k : CellNode) → k ≡ (cell_edge edge).node → k ≡ w.child
  child_lent k same = same ∙ sym both.1

  -- with another node there
  pub grown_lent : (slot : NodeRef) → let n = cell_node owner in let cs = cells_list n.under in cell_node (with_edges owner (with_edge es place (with_ref edge slot))) ≡ (let v : CellNode = record { cell = n.cell; prefix = n.prefix; leaf = n.leaf; under = cells_in (take place cs ++ led (w.label ∷ []) (cell_ref slot) ∷ drop (place + 1) cs) } in v)
  grown_lent slot =
      let n = cell_node owner in
      let cs = cells_list n.under in
      lent_node owner es edge place is there (leads_within place left rest n w) slot
      ∙ (λ i. record { cell = n.cell; prefix = n.prefix; leaf = n.leaf; under = cells_in (take place cs ++ led (sym both.0 i ∷ []) (cell_ref slot) ∷ drop (place + 1) cs) })

  -- or with the same one
  pub same_lent : (slot : NodeRef) → cell_ref slot ≡ w.child → cell_node (with_edges owner (with_edge es place (with_ref edge slot))) ≡ cell_node owner
  same_lent slot same = lent_same owner es edge place is there (leads_within place left rest (cell_node owner) w) slot (same ∙ both.1)
