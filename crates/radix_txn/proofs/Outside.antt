-- Of a node's edges, what a write leaves where it is.
use Rattle.std.proofs.Common.{◌≡◌, inl, inr, ◌++◌, ◌∷◌, ◌∙◌, ℕ, List, [], take, drop, Option, refl, sym, ap, subst, append_assoc}
use Rattle.std.proofs.lemmas.List.{append-nil}
use Rattle.mdb_datum.specs.Bytes.{Bytes}
use Rattle.radix_node.specs.Cells.{CellLeaf, CellNode, CellNodes, no_cells, celled, Piece, leaf_pieces, node_pieces, cells_in}
use Rattle.radix_node.specs.Nodes.{part}
use Rattle.radix_node.specs.Paths.{Has}
use Rattle.radix_node.specs.Siblings.{cells_list}
use Rattle.radix_node.proofs.Parts.{part_first}
use Rattle.radix_node.proofs.Paths.{Has-left, Has-right, Has-split}
use Rattle.radix_txn.specs.declared.target.Target.{Target}
use Rattle.radix_txn.specs.declared.target.Target.TheVariants.{Key, Prefix}
use Rattle.radix_txn.specs.inner.Outside.{AllIn, below_pieces, inner_pieces, outside, outside_node, staying}
use Rattle.radix_txn.specs.inner.Pieces.{led, inside_of}
use Rattle.radix_txn.proofs.CellInserts.{cells_in_list}

-- ---- lists in lists

pub all_in_same : (xs : List Piece) → AllIn xs xs
all_in_same xs x h = h

pub all_in_is : (xs ys : List Piece) → xs ≡ ys → AllIn xs ys
all_in_is xs ys e = subst (AllIn xs) e (all_in_same xs)

pub all_in_both : (xs ys vs ws : List Piece) → AllIn xs vs → AllIn ys ws → AllIn (xs ++ ys) (vs ++ ws)
all_in_both xs ys vs ws f g x h = elim (Has-split x xs ys h) [ inl a ↦ Has-left x vs ws (f x a) | inr b ↦ Has-right x vs ws (g x b) ]

pub all_in_then : (xs ys zs : List Piece) → AllIn xs ys → AllIn ys zs → AllIn xs zs
all_in_then xs ys zs f g x h = g x (f x h)

-- ---- what stays is within the nodes

pub inner_nodes : (ns : CellNodes) → AllIn (inner_pieces ns) (node_pieces ns)
inner_nodes no_cells x h = h
inner_nodes (celled cell prefix leaf under later) x h =
    inr (subst (Has x) (append_assoc (leaf_pieces leaf) (node_pieces under) (node_pieces later)) (all_in_both (inside_of leaf under) (inner_pieces later) (inside_of leaf under) (node_pieces later) (all_in_same (inside_of leaf under)) (inner_nodes later) x h))

pub below_inside : (leaf : Option CellLeaf) (under : CellNodes) → AllIn (below_pieces leaf under) (inside_of leaf under)
below_inside leaf under = all_in_both (leaf_pieces leaf) (inner_pieces under) (leaf_pieces leaf) (node_pieces under) (all_in_same (leaf_pieces leaf)) (inner_nodes under)

-- of one node
pub staying_in : (target : Target) (p k : Bytes) (leaf : Option CellLeaf) (under : CellNodes) (below : List Piece) → AllIn below (inner_pieces under) → AllIn (staying target p k leaf under below) (inside_of leaf under)
staying_in target [] (z ∷ k) leaf under below f x h = all_in_then (leaf_pieces leaf ++ below) (below_pieces leaf under) (inside_of leaf under) (all_in_both (leaf_pieces leaf) below (leaf_pieces leaf) (inner_pieces under) (all_in_same (leaf_pieces leaf)) f) (below_inside leaf under) x h
staying_in Key [] [] leaf under below f x h = Has-right x (leaf_pieces leaf) (node_pieces under) (inner_nodes under x (f x h))
staying_in Prefix [] [] leaf under below f x h = absurd h
staying_in Key (y ∷ p) k leaf under below f x h = h
staying_in Prefix (y ∷ p) [] leaf under below f x h = absurd h
staying_in Prefix (y ∷ p) (z ∷ k) leaf under below f x h = h

pub outside_inner : (target : Target) (rest : Bytes) (ns : CellNodes) → AllIn (outside target rest ns) (inner_pieces ns)
outside_inner target rest no_cells x h = h
outside_inner target rest (celled cell prefix leaf under later) x h =
    let s = part prefix rest in
    all_in_both _ _ (inside_of leaf under) (inner_pieces later)
    (staying_in target s.1 s.2 leaf under (outside target s.2 under) (outside_inner target s.2 under)) (outside_inner target rest later) x h

-- ---- nodes side by side

pub inner_split : (xs ys : List CellNode) → inner_pieces (cells_in (xs ++ ys)) ≡ inner_pieces (cells_in xs) ++ inner_pieces (cells_in ys)
inner_split [] ys = refl
inner_split (n ∷ xs) ys = ap (λ (zs : List Piece). inside_of n.leaf n.under ++ zs) (inner_split xs ys) ∙ sym (append_assoc (inside_of n.leaf n.under) (inner_pieces (cells_in xs)) (inner_pieces (cells_in ys)))

pub outside_split : (target : Target) (rest : Bytes) (xs ys : List CellNode) → outside target rest (cells_in (xs ++ ys)) ≡ outside target rest (cells_in xs) ++ outside target rest (cells_in ys)
outside_split target rest [] ys = refl
outside_split target rest (n ∷ xs) ys =
    let s = part n.prefix rest in
    let own = staying target s.1 s.2 n.leaf n.under (outside target s.2 n.under) in
    ap (λ (zs : List Piece). own ++ zs) (outside_split target rest xs ys) ∙ sym (append_assoc own (outside target rest (cells_in xs)) (outside target rest (cells_in ys)))

-- where the rest goes on, others come in the place of some nodes
module _ (target : Target) (x : ℕ) (k : Bytes) (n : CellNode) (start end : ℕ) (ks : List CellNode) (js : List Piece) where
  pub stays_beside : (let es = cells_list n.under in es ≡ take start es ++ (ks ++ drop end es)) → AllIn (outside target (x ∷ k) (cells_in ks)) js → (let es = cells_list n.under in AllIn (outside_node target (x ∷ k) n) (leaf_pieces n.leaf ++ (inner_pieces (cells_in (take start es)) ++ (js ++ inner_pieces (cells_in (drop end es))))))
  stays_beside whole inner =
      let rest = x ∷ k in
      let es = cells_list n.under in
      let xs = take start es in
      let ys = drop end es in
      let is : outside target rest n.under ≡ outside target rest (cells_in xs) ++ (outside target rest (cells_in ks) ++ outside target rest (cells_in ys)) =
      ap (outside target rest) (sym (cells_in_list n.under) ∙ ap cells_in whole) ∙ outside_split target rest xs (ks ++ ys) ∙ ap (λ (zs : List Piece). outside target rest (cells_in xs) ++ zs) (outside_split target rest ks ys) in
      all_in_both (leaf_pieces n.leaf) (outside target rest n.under) (leaf_pieces n.leaf) _ (all_in_same (leaf_pieces n.leaf))
      (subst (λ (zs : List Piece). AllIn zs (inner_pieces (cells_in xs) ++ (js ++ inner_pieces (cells_in ys)))) (sym is)
      (all_in_both (outside target rest (cells_in xs)) _ (inner_pieces (cells_in xs)) _ (outside_inner target rest (cells_in xs))
      (all_in_both (outside target rest (cells_in ks)) (outside target rest (cells_in ys)) js (inner_pieces (cells_in ys)) inner (outside_inner target rest (cells_in ys)))))

-- ---- the node at an edge

pub outside_edge : (target : Target) (x : ℕ) (k : Bytes) (n : CellNode) → let s = part n.prefix k in outside target (x ∷ k) (cells_in (led (x ∷ []) n ∷ [])) ≡ staying target s.1 s.2 n.leaf n.under (outside target s.2 n.under)
outside_edge target x k n =
    append-nil _ ∙ ap (λ (s : Bytes × Bytes × Bytes). staying target s.1 s.2 n.leaf n.under (outside target s.2 n.under)) (part_first x n.prefix k)

-- where the rest goes past its prefix
pub edge_past : (target : Target) (x : ℕ) (k rest : Bytes) (n : CellNode) → (part n.prefix k).1 ≡ [] → (part n.prefix k).2 ≡ rest → outside target (x ∷ k) (cells_in (led (x ∷ []) n ∷ [])) ≡ outside_node target rest n
edge_past target x k rest n e f = outside_edge target x k n ∙ (λ i. staying target (e i) (f i) n.leaf n.under (outside target (f i) n.under))
