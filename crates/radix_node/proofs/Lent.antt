-- What a value that lent a part of it is at its end.
use Rattle.std.proofs.Common.{◌≡◌, ◌+◌, ◌<◌, ◌++◌, ◌∷◌, ◌∙◌, ℕ, zero, suc, List, [], length, take, drop, slice_set, refl, sym, ap, arith}
use Rattle.std.proofs.lemmas.List.{map-set}
use Rattle.radix_node.specs.CellNode.{CellEdge, cell_edge, cell_edges, cell_node, cell_ref, led_node}
use Rattle.radix_node.specs.Cells.{CellNode, cells_in}
use Rattle.radix_node.specs.Lending.{with_node, with_ref, with_edge, with_edges}
use Rattle.radix_node.specs.declared.edge.Edge.{Edge}
use Rattle.radix_node.specs.declared.edges.Edges.{Edges, out-Edges}
use Rattle.radix_node.specs.declared.node.Node.{Node}
use Rattle.radix_node.specs.declared.node_ref.NodeRef.{NodeRef}
use Rattle.radix_node.proofs.CellLevels.{cell_edge_roll, cell_edges_out, cell_edges_roll, cell_node_roll, cell_ref_roll, out_cell, out_cell_edge, out_cell_leaf, out_cell_prefix}

pub cells_with_node : (r : NodeRef) (n : Node) → cell_ref (with_node r n) ≡ cell_node n
cells_with_node r n = cell_ref_roll _

pub cells_with_ref : (e : Edge) (r : NodeRef) → cell_edge (with_ref e r) ≡ (let w : CellEdge = record { label = (cell_edge e).label; node = cell_ref r } in w)
cells_with_ref e r = cell_edge_roll _ ∙ (λ i. record { label = out_cell_edge e i; node = cell_ref r })

-- a list with another element at a place
pub set_split : {A : Type 0} (xs : List A) (at : ℕ) (x : A) → at < length xs → slice_set xs at x ≡ take at xs ++ x ∷ drop (at + 1) xs
set_split {A} xs at x h = let next : suc at ≡ at + 1 = omega arith in go xs at h ∙ ap (λ k. take at xs ++ x ∷ drop k xs) next
  where
    go : (ys : List A) (k : ℕ) → k < length ys → slice_set ys k x ≡ take k ys ++ x ∷ drop (suc k) ys
    go [] k l = absurd (omega (arith, l))
    go (y ∷ ys) zero l = refl
    go (y ∷ ys) (suc k) l = ap (λ (zs : List A). y ∷ zs) (go ys k (omega (arith, l)))

pub cells_with_edge : (es : Edges) (at : ℕ) (e : Edge) → at < length (cell_edges es) → cell_edges (with_edge es at e) ≡ take at (cell_edges es) ++ led_node e ∷ drop (at + 1) (cell_edges es)
cells_with_edge es at e within =
    cell_edges_roll _ ∙ map-set led_node (out-Edges es).edges.items at e
    ∙ ap (λ (ns : List CellNode). slice_set ns at (led_node e)) (sym (cell_edges_out es))
    ∙ set_split (cell_edges es) at (led_node e) within

pub cells_with_edges : (n : Node) (es : Edges) → cell_node (with_edges n es) ≡ (let m = cell_node n in let w : CellNode = record { cell = m.cell; prefix = m.prefix; leaf = m.leaf; under = cells_in (cell_edges es) } in w)
cells_with_edges n es = cell_node_roll _ ∙ (λ i. record { cell = out_cell n i; prefix = out_cell_prefix n i; leaf = out_cell_leaf n i; under = cells_in (cell_edges es) })
