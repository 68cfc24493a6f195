-- A tree has fewer keys than ids were drawn for its cells: each key's leaf has a cell, no two cells
-- have one id, and the root has a cell too.
use Rattle.std.proofs.Common.{arith, ◌≡◌, refl, ℕ, zero, suc, ◌+◌, ◌≤◌, ◌<◌, inl, inr, List, [], ◌∷◌, ◌++◌, length, Option, Some, None}
use Rattle.std.proofs.lemmas.Bool.{eqb-true, false_from_ne_true}
use Rattle.std.proofs.lemmas.List.{length-append, length-map}
use Rattle.std.specs.Prelude.{nat_eq}
use Rattle.watch_word.specs.Logs.{Cell}
use Rattle.radix_node.specs.Cells.{AreApart, AreBelow, CellLeaf, CellNodes, no_cells, celled, CellTree, cells_of, count, leaf_pieces, node_pieces, piece_cell, pieces_of, plain_leaf, plain_nodes, plain_of}
use Rattle.radix_node.specs.Nodes.{pairs_of, pairs_of_leaf, pairs_of_nodes}
use Rattle.radix_txn.proofs.Steps.{count_other, lt_or_le}
use Rattle.radix_txn.proofs.TxnTrees.{some_count}

-- ---- ids below a number

-- how many cells have an id below it
below : ℕ → List Cell → ℕ
below zero cs = 0
below (suc n) cs = count n cs + below n cs

at_most : (n : ℕ) (cs : List Cell) → ((i : ℕ) → count i cs ≤ 1) → below n cs ≤ n
unfolding below
at_most zero cs apart = omega arith
at_most (suc n) cs apart = let one = apart n in let others = at_most n cs apart in omega (arith, one, others)

none_below : (n : ℕ) → below n [] ≡ 0
unfolding below
none_below zero = refl
none_below (suc n) = let e = none_below n in omega (arith, e)

not_at : (n : ℕ) (c : Cell) → (c.id ≡ n → ⊥) → count n (c ∷ []) ≡ 0
not_at n c other = count_other n c (false_from_ne_true (nat_eq c.id n) (λ e. other (eqb-true c.id n e)))

-- a cell whose id isn't below it counts nothing
above : (n : ℕ) (c : Cell) (cs : List Cell) → n ≤ c.id → below n (c ∷ cs) ≡ below n cs
unfolding below
above zero c cs le = refl
above (suc n) c cs le =
    let other = not_at n c (λ e. omega (arith, e, le)) in
    let rest = above n c cs (omega (arith, le)) in
    omega (arith, other, rest)

-- one whose id is below it counts one
one_more : (n : ℕ) (c : Cell) (cs : List Cell) → c.id < n → below n (c ∷ cs) ≡ suc (below n cs)
unfolding below
one_more zero c cs lt = absurd (omega (arith, lt))
one_more (suc n) c cs lt = elim (lt_or_le c.id n) [
  | inl less ↦ (let other = not_at n c (λ e. omega (arith, e, less)) in let rest = one_more n c cs less in omega (arith, other, rest))
  | inr le ↦ (let here = some_count n c (omega (arith, lt, le)) in let rest = above n c cs le in omega (arith, here, rest))
]

-- so where all ids are, each cell counts one
all_below : (n : ℕ) (cs : List Cell) → ((i : ℕ) → n ≤ i → count i cs ≡ 0) → below n cs ≡ length cs
all_below n [] few = none_below n
all_below n (c ∷ cs) few = elim (lt_or_le c.id n) [
  | inl lt ↦ (let first = one_more n c cs lt in let rest = all_below n cs fewer in omega (arith, first, rest))
  | inr le ↦ (let none = few c.id le in let here = some_count c.id c refl in absurd (omega (arith, none, here)))
]
  where
    fewer : (i : ℕ) → n ≤ i → count i cs ≡ 0
    fewer i high = let none = few i high in omega (arith, none)

-- ---- keys and cells

leaf_counts : (l : Option CellLeaf) → length (pairs_of_leaf (plain_leaf l)) ≡ length (leaf_pieces l)
leaf_counts None = refl
leaf_counts (Some l) = refl

nodes_count : (ns : CellNodes) → length (pairs_of_nodes (plain_nodes ns)) ≤ length (node_pieces ns)
nodes_count no_cells = omega arith
nodes_count (celled cell prefix leaf under later) =
    let l = leaf_counts leaf in
    let u = nodes_count under in
    let s = nodes_count later in
    let pairs = length-append (pairs_of_leaf (plain_leaf leaf)) (pairs_of_nodes (plain_nodes under) ++ pairs_of_nodes (plain_nodes later)) in
    let pairs_under = length-append (pairs_of_nodes (plain_nodes under)) (pairs_of_nodes (plain_nodes later)) in
    let pieces = length-append (leaf_pieces leaf) (node_pieces under ++ node_pieces later) in
    let pieces_under = length-append (node_pieces under) (node_pieces later) in
    omega (arith, l, u, s, pairs, pairs_under, pieces, pieces_under)

tree_counts : (t : CellTree) → length (pairs_of (plain_of t)) + 1 ≤ length (cells_of t)
tree_counts t =
    let l = leaf_counts t.leaf in
    let n = nodes_count t.nodes in
    let pairs = length-append (pairs_of_leaf (plain_leaf t.leaf)) (pairs_of_nodes (plain_nodes t.nodes)) in
    let pieces = length-append (leaf_pieces t.leaf) (node_pieces t.nodes) in
    let cells = length-map (pieces_of t) piece_cell in
    omega (arith, l, n, pairs, pieces, cells)

pub few_keys : (next : ℕ) (t : CellTree) → AreApart t → AreBelow next t → length (pairs_of (plain_of t)) + 1 ≤ next
few_keys next t apart few =
    let keys = tree_counts t in
    let cells = all_below next (cells_of t) few in
    let most = at_most next (cells_of t) apart in
    omega (arith, keys, cells, most)
