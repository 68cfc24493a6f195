-- The steps of the walk of a key from node to node, in memory.
use Rattle.std.proofs.Common.{◌≡◌, ◌++◌, ◌∷◌, ◌∙◌, ℕ, Bool, true, false, cond, [], length, Option, Some, None, refl, sym, ap, Less, Equal, Greater}
use Rattle.std.specs.Prelude.{nat_eq}
use Rattle.std.specs.List.{starts_with}
use Rattle.std.specs.FinMap.Entries as entries
use Rattle.mdb_datum.specs.Bytes.{Bytes}
use Rattle.radix_node.specs.CellNode.{led, tree_at, cell_edge_of}
use Rattle.radix_node.specs.Cells.{CellLeaf, CellNode, CellNodes, no_cells, celled, CellTree, plain_leaf, plain_nodes, root_of}
use Rattle.radix_node.specs.Node.{left_of, rest_past}
use Rattle.radix_node.specs.Nodes.{part, first_order, pairs_of_leaf, pairs_of_nodes}
use Rattle.radix_node.specs.inner.Descent.{leaf_by, pairs_by, EndsAt}
use Rattle.radix_node.specs.WalkDown.{End, arrived, walk, walk_on, walk_tree, leaf_if, end_leaf, pairs_if, end_pairs}
use Rattle.radix_node.specs.declared.tree.descent.KeyEnd.{KeyEnd}
use Rattle.radix_node.specs.declared.tree.descent.KeyEnd.TheVariants.{At, Within, Outside}
use Rattle.radix_node.proofs.Levels.{first_byte}
use Rattle.radix_node.proofs.LookupSteps.{no_bytes, is_empty, rest_past_label, prefix_tested}
use Rattle.radix_node.proofs.Parts.{part_first}
use Rattle.radix_node.proofs.Walks.{on_at}

-- a walk goes on by the edge of its first byte
abbrev through : End → Option CellNode → Bytes → End
through above None rest = above
through above (Some n) rest = on_at n rest

walk_edge : (above : End) (x : ℕ) (k : Bytes) (ns : CellNodes) → walk above (x ∷ k) ns ≡ through above (cell_edge_of x ns) (x ∷ k)
walk_edge above x k no_cells = refl
walk_edge above x k (celled cell prefix leaf under later) =
    let n : CellNode = record { cell = cell; prefix = prefix; leaf = leaf; under = under } in
    ap (λ o. entries.by_order o above (on_at n (x ∷ k)) (walk above (x ∷ k) later)) (first_byte x k prefix)
    ∙ elim (first_order (x ∷ []) prefix) as (λ o. entries.by_order o above (on_at n (x ∷ k)) (walk above (x ∷ k) later) ≡ through above (entries.by_order o None (Some n) (cell_edge_of x later)) (x ∷ k)) [
      | Less ↦ refl
      | Equal ↦ refl
      | Greater ↦ walk_edge above x k later
    ]

-- ---- at a node from whose prefix the rest parts, or goes on

parted_end : (here : End) (p k : Bytes) (leaf : Option CellLeaf) (below : End) → left_of p k ≡ None → (arrived here p k below ≡ here) × (leaf_if p k leaf ≡ None)
parted_end here [] k leaf below e = absurd cc
parted_end here (y ∷ p) k leaf below e = (refl, refl)

onward_end : (here : End) (p k left : Bytes) (leaf : Option CellLeaf) (under : CellNodes) → left_of p k ≡ Some left → (arrived here p k (walk here k under) ≡ walk_on here left under) × (leaf_if p k leaf ≡ leaf_if [] left leaf) × (k ≡ left)
onward_end here [] [] left leaf under e =
    let same : [] ≡ left = cc in
    (ap (λ (z : Bytes). walk_on here z under) same, ap (λ (z : Bytes). leaf_if [] z leaf) same, same)
onward_end here [] (x ∷ k) left leaf under e =
    let same : x ∷ k ≡ left = cc in
    (ap (λ (z : Bytes). walk_on here z under) same, ap (λ (z : Bytes). leaf_if [] z leaf) same, same)
onward_end here (y ∷ p) k left leaf under e = absurd cc

-- ---- a walk that is at a node

-- by what is at a node and under it
same_pairs : (k : Bytes) (n m : CellNode) → tree_at n ≡ tree_at m → pairs_if k n ≡ pairs_if k m
same_pairs [] n m e = ap (λ (t : CellTree). pairs_of_leaf (plain_leaf t.leaf) ++ pairs_of_nodes (plain_nodes t.nodes)) e
same_pairs (x ∷ k) n m e = refl

pub record IsWalkAt (end : End) (rest : Bytes) (n : CellNode) : Type 0 where
  pub above : End
  pub cell : above.node.cell ≡ n.cell
  pub leaf : end_leaf above ≡ leaf_if [] rest n.leaf
  pub pairs : end_pairs above ≡ pairs_if rest n
  pub same : walk_on above rest n.under ≡ end

pub walk_root : (key : Bytes) (t : CellTree) (n : CellNode) → tree_at n ≡ t → IsWalkAt (walk_tree key t) key n
walk_root key t n is = record {
  above = record { node = root_of t; rest = key };
  cell = ap (λ (u : CellTree). u.cell) (sym is);
  leaf = ap (λ (u : CellTree). leaf_if [] key u.leaf) (sym is);
  pairs = same_pairs key (root_of t) n (sym is);
  same = ap (λ (u : CellTree). walk_on (record { node = root_of t; rest = key }) key u.nodes) is;
}

-- ---- how a key ends that parts from a node's prefix, by whether it is a prefix of that

abbrev parting : Bool → KeyEnd
parting b = cond b Within Outside

no_leaf : (b : Bool) (leaf : Option CellLeaf) → None ≡ leaf_by (parting b) leaf
no_leaf true leaf = refl
no_leaf false leaf = refl

pairs_parted : (k : Bytes) (n : CellNode) → pairs_if k n ≡ pairs_by (parting (is_empty k)) n
pairs_parted [] n = refl
pairs_parted (x ∷ k) n = refl

module _ (end : End) (k : Bytes) (n : CellNode) (at : IsWalkAt end k n) where
  pub walk_ended : length k ≡ 0 → EndsAt end n At
  walk_ended e =
      let none = no_bytes k e in
      let is : at.above ≡ end = ap (λ (z : Bytes). walk_on at.above z n.under) (sym none) ∙ at.same in
      record {
        cell = sym at.cell ∙ ap (λ (z : End). z.node.cell) is;
        leaf = ap end_leaf (sym is) ∙ at.leaf ∙ ap (λ (z : Bytes). leaf_if [] z n.leaf) none;
        pairs = ap end_pairs (sym is) ∙ at.pairs ∙ ap (λ (z : Bytes). pairs_if z n) none;
      }

  module _ (x : ℕ) (after : Bytes) (first : k ≡ x ∷ after) where
    by_edge : through at.above (cell_edge_of x n.under) (x ∷ after) ≡ end
    by_edge = sym (walk_edge at.above x after n.under) ∙ ap (λ (z : Bytes). walk_on at.above z n.under) (sym first) ∙ at.same

    pub walk_no_edge : None ≡ cell_edge_of x n.under → EndsAt end n Outside
    walk_no_edge e =
        let is : at.above ≡ end = ap (λ (m : Option CellNode). through at.above m (x ∷ after)) e ∙ by_edge in
        record {
          cell = sym at.cell ∙ ap (λ (z : End). z.node.cell) is;
          leaf = ap end_leaf (sym is) ∙ at.leaf ∙ ap (λ (z : Bytes). leaf_if [] z n.leaf) first;
          pairs = ap end_pairs (sym is) ∙ at.pairs ∙ ap (λ (z : Bytes). pairs_if z n) first;
        }

    module _ (m : CellNode) (e : Some (led (record { label = x; node = m })) ≡ cell_edge_of x n.under) where
      abbrev here : End
      here = record { node = led (record { label = x; node = m }); rest = x ∷ after }

      on_it : on_at (led (record { label = x; node = m })) (x ∷ after) ≡ end
      on_it = ap (λ (z : Option CellNode). through at.above z (x ∷ after)) e ∙ by_edge

      pub walk_parted : None ≡ rest_past m.prefix after → (b : Bool) → starts_with nat_eq m.prefix after ≡ b → EndsAt end m (parting b)
      walk_parted none b test =
          let s = part (x ∷ m.prefix) (x ∷ after) in
          let parts = parted_end here s.1 s.2 m.leaf (walk here s.2 m.under) (rest_past_label x m.prefix after ∙ sym none) in
          let is : here ≡ end = sym parts.0 ∙ on_it in
          let within : is_empty s.2 ≡ b = ap (λ (z : Bytes × Bytes × Bytes). is_empty z.2) (part_first x m.prefix after) ∙ sym (prefix_tested m.prefix after) ∙ test in
          record {
            cell = ap (λ (z : End). z.node.cell) is;
            leaf = ap end_leaf (sym is) ∙ parts.1 ∙ no_leaf b m.leaf;
            pairs = ap end_pairs (sym is) ∙ same_pairs s.2 here.node m refl ∙ pairs_parted s.2 m ∙ ap (λ (z : Bool). pairs_by (parting z) m) within;
          }

      pub walk_onward : (left : Bytes) → Some left ≡ rest_past m.prefix after → IsWalkAt end left m
      walk_onward left some =
          let s = part (x ∷ m.prefix) (x ∷ after) in
          let parts = onward_end here s.1 s.2 left m.leaf m.under (rest_past_label x m.prefix after ∙ sym some) in
          record { above = here; cell = refl; leaf = parts.1; pairs = same_pairs s.2 here.node m refl ∙ ap (λ (z : Bytes). pairs_if z m) parts.2; same = sym parts.0 ∙ on_it }
