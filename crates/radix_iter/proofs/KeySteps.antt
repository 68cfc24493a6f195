-- What a step down along a key adds to a walk from a bound, and what is left for the further steps.
use Rattle.std.proofs.Common.{◌≡◌, ◌++◌, ◌∷◌, ◌∙◌, ℕ, true, false, List, [], Some, None, refl, sym, ap, append_assoc, is_lt, is_gt, Less, Equal, Greater}
use Rattle.std.proofs.lemmas.List.{append-nil}
use Rattle.std.specs.Ordering.{nat_cmp, ordering_then}
use Rattle.std.specs.FinMap.Entries as entries
use Rattle.mdb_datum.specs.Bytes.{byte_order}
use Rattle.mdb_datum.specs.Row.{Pair}
use Rattle.radix_node.specs.Node.{PlainNode, below, edge_of, left_of, rest_past}
use Rattle.radix_node.specs.Nodes.{Nodes, no_nodes, node, pairs_of_leaf, pairs_of_nodes, pairs_of, part, first_order}
use Rattle.radix_node.proofs.ByteCompare.{what_equal}
use Rattle.radix_node.proofs.KeyOrder.{same_start}
use Rattle.radix_node.proofs.Levels.{first_byte}
use Rattle.radix_node.proofs.Parts.{HeadsDiffer, part_parts}
use Rattle.radix_node.proofs.PathFilter.{when, walked, walked_at, walked_node, walked_edge}
use Rattle.radix_iter.specs.inner.Beside.{higher, lower}
use Rattle.radix_iter.proofs.KeyFilters.{upward, downward}

-- ---- beside the edge of a byte

module _ (x : ℕ) (k : List ℕ) where
  -- upward, the nodes of higher bytes come after those under the edge
  pub walked_upward : (ns : Nodes) → walked upward (x ∷ k) ns ≡ walked_edge upward (x ∷ k) (edge_of x ns) ++ pairs_of_nodes (higher x ns)
  walked_upward no_nodes = refl
  walked_upward (node prefix leaf under later) =
      let n : PlainNode = record { prefix = prefix; leaf = leaf; under = under } in
      let whole = pairs_of_leaf leaf ++ (pairs_of_nodes under ++ pairs_of_nodes later) in
      ap (λ o. entries.by_order o whole (walked_node upward (x ∷ k) n ++ pairs_of_nodes later) (walked upward (x ∷ k) later)) (first_byte x k prefix)
      ∙ elim (first_order (x ∷ []) prefix) as (λ o. entries.by_order o whole (walked_node upward (x ∷ k) n ++ pairs_of_nodes later) (walked upward (x ∷ k) later) ≡ walked_edge upward (x ∷ k) (entries.by_order o None (Some n) (edge_of x later)) ++ pairs_of_nodes (entries.by_order o (node prefix leaf under later) later (higher x later))) [
        | Less ↦ refl
        | Equal ↦ refl
        | Greater ↦ walked_upward later
      ]

  -- downward, the nodes of lower bytes come before those under the edge
  pub walked_downward : (ns : Nodes) → walked downward (x ∷ k) ns ≡ pairs_of_nodes (lower x ns) ++ walked_edge downward (x ∷ k) (edge_of x ns)
  walked_downward no_nodes = refl
  walked_downward (node prefix leaf under later) =
      let n : PlainNode = record { prefix = prefix; leaf = leaf; under = under } in
      let here = walked_node downward (x ∷ k) n in
      let none : List Pair = [] in
      let past = pairs_of_leaf leaf ++ (pairs_of_nodes under ++ walked downward (x ∷ k) later) in
      ap (λ o. entries.by_order o none (here ++ []) past) (first_byte x k prefix)
      ∙ elim (first_order (x ∷ []) prefix) as (λ o. entries.by_order o none (here ++ []) past ≡ pairs_of_nodes (entries.by_order o no_nodes no_nodes (node prefix leaf under (lower x later))) ++ walked_edge downward (x ∷ k) (entries.by_order o None (Some n) (edge_of x later))) [
        | Less ↦ refl
        | Equal ↦ append-nil here
        | Greater ↦
            ap (λ (ps : List Pair). pairs_of_leaf leaf ++ (pairs_of_nodes under ++ ps)) (walked_downward later)
            ∙ regroup (pairs_of_leaf leaf) (pairs_of_nodes under) (pairs_of_nodes (lower x later)) (walked_edge downward (x ∷ k) (edge_of x later))
      ]
    where
      regroup : (a b c d : List Pair) → a ++ (b ++ (c ++ d)) ≡ (a ++ (b ++ c)) ++ d
      regroup a b c d = ap (λ (z : List Pair). a ++ z) (sym (append_assoc b c d)) ∙ sym (append_assoc a (b ++ c) d)

-- ---- at a node from whose prefix the key parts, or within which it ends

-- the order of the key and the prefix is that of what is left of them
order_left : (prefix rest : List ℕ) → let s = part prefix rest in byte_order rest prefix ≡ byte_order s.2 s.1
order_left prefix rest =
    let s = part prefix rest in
    let is = part_parts prefix rest in
    (λ i. byte_order (is.second i) (is.first i)) ∙ same_start s.0 s.2 s.1

module _ (n : PlainNode) where
  upward_at : (under_key : List Pair) (p k : List ℕ) → left_of p k ≡ None → HeadsDiffer p k → walked_at upward p k (pairs_of_leaf n.leaf) (pairs_of_nodes n.under) under_key ≡ when (is_lt (byte_order k p)) (pairs_of (below n))
  upward_at under_key [] k e differ = cc
  upward_at under_key (y ∷ p) [] e differ = refl
  upward_at under_key (y ∷ p) (x ∷ k) e differ =
      elim (nat_cmp x y) as (λ o. nat_cmp x y ≡ o → (let b = entries.by_order o true false false in when b (pairs_of_leaf n.leaf) ++ when b (pairs_of_nodes n.under)) ≡ when (is_lt (ordering_then o (byte_order k p))) (pairs_of (below n))) [
        | Less ↦ λ o. refl
        | Equal ↦ λ o. absurd (differ (sym (what_equal x y o)))
        | Greater ↦ λ o. refl
      ] refl

  downward_at : (under_key : List Pair) (p k : List ℕ) → left_of p k ≡ None → HeadsDiffer p k → walked_at downward p k (pairs_of_leaf n.leaf) (pairs_of_nodes n.under) under_key ≡ when (is_gt (byte_order k p)) (pairs_of (below n))
  downward_at under_key [] k e differ = cc
  downward_at under_key (y ∷ p) [] e differ = refl
  downward_at under_key (y ∷ p) (x ∷ k) e differ =
      elim (nat_cmp x y) as (λ o. nat_cmp x y ≡ o → (let b = entries.by_order o false true true in when b (pairs_of_leaf n.leaf) ++ when b (pairs_of_nodes n.under)) ≡ when (is_gt (ordering_then o (byte_order k p))) (pairs_of (below n))) [
        | Less ↦ λ o. refl
        | Equal ↦ λ o. absurd (differ (sym (what_equal x y o)))
        | Greater ↦ λ o. refl
      ] refl

  module _ (rest : List ℕ) (none : rest_past n.prefix rest ≡ None) where
    pub upward_parted : walked_node upward rest n ≡ when (is_lt (byte_order rest n.prefix)) (pairs_of (below n))
    upward_parted =
        let s = part n.prefix rest in
        let is = part_parts n.prefix rest in
        upward_at (walked upward s.2 n.under) s.1 s.2 none is.differ ∙ ap (λ o. when (is_lt o) (pairs_of (below n))) (sym (order_left n.prefix rest))

    pub downward_parted : walked_node downward rest n ≡ when (is_gt (byte_order rest n.prefix)) (pairs_of (below n))
    downward_parted =
        let s = part n.prefix rest in
        let is = part_parts n.prefix rest in
        downward_at (walked downward s.2 n.under) s.1 s.2 none is.differ ∙ ap (λ o. when (is_gt o) (pairs_of (below n))) (sym (order_left n.prefix rest))
