-- A split, as it is made node by node, is steps over pieces.
use Rattle.std.proofs.Common.{◌≡◌, ◌≢◌, ◌+◌, ◌<◌, ◌≤◌, ◌∷◌, ℕ, List, [], length, drop, Some, None, refl, sym, ap, subst, arith, length-append, Ordering, Less, Equal, Greater}
use Rattle.std.specs.FinMap.Entries as entries
use Rattle.mdb_datum.specs.Bytes.{Bytes}
use Rattle.watch_word.specs.Logs.{Cell}
use Rattle.radix_node.specs.CellNode.{cell_put}
use Rattle.radix_node.specs.Cells.{CellLeaf, CellNode, no_cells, Piece, a_leaf, node_pieces, cells_in}
use Rattle.radix_node.specs.Nodes.{part, common, first_order}
use Rattle.radix_node.proofs.ByteCompare.{what_equal}
use Rattle.radix_node.proofs.Parts.{HeadsDiffer, part_parts}
use Rattle.radix_txn.specs.inner.Pieces.{led, inside, whole}
use Rattle.radix_txn.specs.inner.Steps.{IsStep, Ledger, Steps, IsNew, IsNext, IsNextOf, one_drawn, one_left}
use Rattle.radix_txn.proofs.CellEdits.{pieces_one, step_split_end, step_split_before, step_split_after}
use Rattle.radix_txn.proofs.Split.{first_rest, second_rest}
use Rattle.radix_txn.proofs.Steps.{at}

-- the bytes at which the prefix and the key part differ
heads_order : (p k : Bytes) → HeadsDiffer p k → 0 < length p → 0 < length k → first_order k p ≢ Equal
heads_order [] k d h g = absurd (omega (arith, h))
heads_order (y ∷ p) [] d h g = absurd (omega (arith, g))
heads_order (y ∷ p) (x ∷ k) d h g = λ e. d (sym (what_equal x y e))

pub parted_order : (p k : Bytes) (n : ℕ) → n ≡ length (common p k) → n < length p → n < length k → first_order (drop n k) (drop n p) ≢ Equal
parted_order p k n is in_p in_k =
    let parts = part_parts p k in
    let first = first_rest p k n is in
    let second = second_rest p k n is in
    let p_more : 0 < length (part p k).1 = omega (arith, is, in_p, ap length parts.first, length-append (part p k).0 (part p k).1) in
    let k_more : 0 < length (part p k).2 = omega (arith, is, in_k, ap length parts.second, length-append (part p k).0 (part p k).2) in
    subst (λ (z : Bytes). first_order (drop n k) z ≢ Equal) (sym first)
    (subst (λ (z : Bytes). first_order z (part p k).1 ≢ Equal) (sym second) (heads_order (part p k).1 (part p k).2 parts.differ p_more k_more))

module _ (l : CellLeaf) (k r lower : CellNode) (a d : Ledger) (begun : a.first ≤ a.next) (id : IsNextOf a lower.cell) (same : inside lower ≡ inside k) where
  -- from and to nodes side by side
  whole_step : (n : ℕ) (left : List Cell) (front : Bytes) → IsStep (IsNew a.log) a.first (at (a_leaf l ∷ node_pieces (cells_in (led front k ∷ []))) a.next a.left) (at (node_pieces (cells_in (led front r ∷ []))) n left) → IsStep (IsNew a.log) a.first (at (a_leaf l ∷ whole (led front k)) a.next a.left) (at (whole (led front r)) n left)
  whole_step n left front s =
      subst (λ (zs : List Piece). IsStep (IsNew a.log) a.first (at (a_leaf l ∷ zs) a.next a.left) (at (whole (led front r)) n left)) (pieces_one (led front k))
      (subst (λ (zs : List Piece). IsStep (IsNew a.log) a.first (at (a_leaf l ∷ node_pieces (cells_in (led front k ∷ []))) a.next a.left) (at zs n left)) (pieces_one (led front r)) s)

  -- the key ends where they part
  pub split_end_step : IsNext (IsNew a.log) (a.next + 1) r.cell → r.leaf ≡ Some l → r.under ≡ cells_in (lower ∷ []) → d ≡ one_drawn (one_left k.cell (one_drawn a)) → (front : Bytes) → Steps (a_leaf l ∷ whole (led front k)) a (whole (led front r)) d
  split_end_step up leaf under after front =
      subst (λ (w : Ledger). Steps (a_leaf l ∷ whole (led front k)) a (whole (led front r)) w) (sym after)
      (whole_step ((a.next + 1) + 1) (one_left k.cell a).left front
      (step_split_end (IsNew a.log) a.first l a.next a.left begun (led front k) lower id same (led front r) up leaf under))

  -- or goes on beside
  module _ (beside : CellNode) (next : IsNext (IsNew a.log) (a.next + 1) beside.cell) (leaf : beside.leaf ≡ Some l) (none : beside.under ≡ no_cells) (up : IsNext (IsNew a.log) ((a.next + 1) + 1) r.cell) (bare : r.leaf ≡ None) where
    by_order_step : (front : Bytes) (o : Ordering) → o ≢ Equal → r.under ≡ cells_in (entries.by_order o (beside ∷ lower ∷ []) (beside ∷ []) (lower ∷ beside ∷ [])) → IsStep (IsNew a.log) a.first (at (a_leaf l ∷ node_pieces (cells_in (led front k ∷ []))) a.next a.left) (at (node_pieces (cells_in (led front r ∷ []))) (((a.next + 1) + 1) + 1) (one_left k.cell a).left)
    by_order_step front Less other under = step_split_before (IsNew a.log) a.first l a.next a.left begun (led front k) lower id same beside (led front r) next leaf none up bare under
    by_order_step front Equal other under = absurd (other refl)
    by_order_step front Greater other under = step_split_after (IsNew a.log) a.first l a.next a.left begun (led front k) lower id same beside (led front r) next leaf none up bare under

    pub split_beside_step : first_order beside.prefix lower.prefix ≢ Equal → r.under ≡ cells_in (cell_put beside (lower ∷ [])) → d ≡ one_drawn (one_drawn (one_left k.cell (one_drawn a))) → (front : Bytes) → Steps (a_leaf l ∷ whole (led front k)) a (whole (led front r)) d
    split_beside_step other under after front =
        subst (λ (w : Ledger). Steps (a_leaf l ∷ whole (led front k)) a (whole (led front r)) w) (sym after)
        (whole_step (((a.next + 1) + 1) + 1) (one_left k.cell a).left front (by_order_step front (first_order beside.prefix lower.prefix) other under))
