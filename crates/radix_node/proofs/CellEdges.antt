-- Where a node with its cells stands among edges.
use Rattle.std.proofs.Common.{◌≡◌, ◌<◌, ◌≤◌, ◌+◌, ◌++◌, ◌∷◌, ◌∙◌, ℕ, suc, List, [], length, map, take, drop, get_or, slice_get, slice_set, option_map, vec_len, Option, Some, None, Result, Ok, Err, refl, sym, ap, arith, Less, Equal, Greater}
use Rattle.std.specs.FinMap.Entries as entries
use Rattle.radix_node.specs.CellNode.{led, cell_edge, cell_edges, led_node, cell_edge_of, cell_put}
use Rattle.radix_node.specs.Cells.{CellNode, CellNodes, cells_in}
use Rattle.radix_node.specs.Edges.{place_of, further_by}
use Rattle.radix_node.specs.Node.{edges_of, plain_edge}
use Rattle.radix_node.specs.Nodes.{first_order}
use Rattle.radix_node.specs.Siblings.{bare}
use Rattle.radix_node.specs.declared.edge.Edge.{Edge}
use Rattle.radix_node.specs.declared.edges.Edges.{Edges, out-Edges}
use Rattle.radix_node.proofs.CellLevels.{cell_edges_out, out_cell_edge, bare_edges}
use Rattle.radix_node.proofs.ListPlaces.{at_place, at_further, put_by, put_further, there, past, replaced_at, inserted_at}
use Rattle.radix_node.proofs.Levels.{first_byte, out_label}

-- the label is the same with the cells and without
pub same_label : (e : Edge) → (plain_edge e).label ≡ (cell_edge e).label
same_label e = sym (out_label e) ∙ out_cell_edge e

-- ---- the edge at a place

pub cells_there : (e : Edges) (at : ℕ) (r : Edge) → at < vec_len (out-Edges e).edges → r ≡ get_or (out-Edges e).edges.items at r → Some (led_node r) ≡ slice_get (cell_edges e) at
cells_there e at r lt read = there CellNode led_node e (cell_edges e) (cell_edges_out e) at r lt read

pub cells_past : (e : Edges) (at : ℕ) → vec_len (out-Edges e).edges ≤ at → None ≡ slice_get (cell_edges e) at
cells_past e at le = past CellNode led_node e (cell_edges e) (cell_edges_out e) at le

-- ---- the edge of a byte

cell_edge_at : (b : ℕ) (ns : List CellNode) → at_place CellNode (place_of b (map bare ns)) ns ≡ cell_edge_of b (cells_in ns)
cell_edge_at b [] = refl
cell_edge_at b (n ∷ ns) = elim (first_order (b ∷ []) n.prefix) as (λ o. at_place CellNode (entries.by_order o (Err 0) (Ok 0) (further_by 1 (place_of b (map bare ns)))) (n ∷ ns) ≡ entries.by_order o None (Some n) (cell_edge_of b (cells_in ns))) [
  | Less ↦ refl
  | Equal ↦ refl
  | Greater ↦ at_further CellNode (place_of b (map bare ns)) n ns ∙ cell_edge_at b ns
]

-- what is at a place that was found
pub cells_at_place : (b : ℕ) (under : CellNodes) (e : Edges) (at : ℕ) (m : Edge) → cells_in (cell_edges e) ≡ under → slice_get (cell_edges e) at ≡ Some (led_node m) → Ok at ≡ place_of b (edges_of e) → (plain_edge m).label ≡ b → Some (led (record { label = b; node = (cell_edge m).node })) ≡ cell_edge_of b under
cells_at_place b under e at m is there found label =
    let edge : Some (led_node m) ≡ cell_edge_of b under =
    sym there ∙ ap (λ r. at_place CellNode r (cell_edges e)) (found ∙ ap (place_of b) (sym (bare_edges e))) ∙ cell_edge_at b (cell_edges e) ∙ ap (cell_edge_of b) is in
    ap (λ (z : ℕ). Some (led (record { label = z; node = (cell_edge m).node }))) (sym label ∙ same_label m) ∙ edge

pub cells_at_gap : (b : ℕ) (under : CellNodes) (e : Edges) (at : ℕ) → cells_in (cell_edges e) ≡ under → Err at ≡ place_of b (edges_of e) → None ≡ cell_edge_of b under
cells_at_gap b under e at is gap = ap (λ r. at_place CellNode r (cell_edges e)) (gap ∙ ap (place_of b) (sym (bare_edges e))) ∙ cell_edge_at b (cell_edges e) ∙ ap (cell_edge_of b) is

-- ---- an edge is put

module _ (b : ℕ) (p : List ℕ) (n : CellNode) (is : n.prefix ≡ b ∷ p) where
  put_at_place : (ns : List CellNode) → cell_put n ns ≡ put_by CellNode n (place_of b (map bare ns)) ns
  put_at_place [] = refl
  put_at_place (m ∷ ms) =
      ap (λ o. entries.by_order o (n ∷ m ∷ ms) (n ∷ ms) (m ∷ cell_put n ms)) (ap (λ (z : List ℕ). first_order z m.prefix) is ∙ first_byte b p m.prefix)
      ∙ elim (first_order (b ∷ []) m.prefix) as (λ o. entries.by_order o (n ∷ m ∷ ms) (n ∷ ms) (m ∷ cell_put n ms) ≡ put_by CellNode n (entries.by_order o (Err 0) (Ok 0) (further_by 1 (place_of b (map bare ms)))) (m ∷ ms)) [
        | Less ↦ refl
        | Equal ↦ refl
        | Greater ↦ ap (λ (zs : List CellNode). m ∷ zs) (put_at_place ms) ∙ sym (put_further CellNode n (place_of b (map bare ms)) m ms)
      ]

module _ (e : Edges) (edge : Edge) (label : ℕ) (is_label : label ≡ (cell_edge edge).label) where
  abbrev own : List ℕ
  own = let n = (cell_edge edge).node in n.prefix

  starts : (led_node edge).prefix ≡ label ∷ own
  starts = ap (λ (z : ℕ). z ∷ own) (sym is_label)

  put_placed : (r : Result ℕ ℕ) → r ≡ place_of label (edges_of e) → put_by CellNode (led_node edge) r (cell_edges e) ≡ cell_put (led_node edge) (cell_edges e)
  put_placed r is =
      ap (λ z. put_by CellNode (led_node edge) z (cell_edges e)) (is ∙ ap (place_of label) (sym (bare_edges e)))
      ∙ sym (put_at_place label own (led_node edge) starts (cell_edges e))

  pub cells_replaced : (at : ℕ) (x : Edge) → x ≡ edge → Ok at ≡ place_of label (edges_of e) → map led_node (slice_set (out-Edges e).edges.items at x) ≡ cell_put (led_node edge) (cell_edges e)
  cells_replaced at x is found = replaced_at CellNode led_node e (cell_edges e) (cell_edges_out e) at x edge is ∙ put_placed (Ok at) found

  pub cells_inserted : (at : ℕ) (items : List Edge) → items ≡ take at (out-Edges e).edges.items ++ edge ∷ drop at (out-Edges e).edges.items → Err at ≡ place_of label (edges_of e) → map led_node items ≡ cell_put (led_node edge) (cell_edges e)
  cells_inserted at items is absent = inserted_at CellNode led_node e (cell_edges e) (cell_edges_out e) at items edge is ∙ put_placed (Err at) absent
