-- Parts of a tree: what lies in a node that is one of its pieces, and at one of the edges.
use Rattle.std.proofs.Common.{◌≡◌, ◌⊎◌, ◌<◌, ◌+◌, inl, inr, ◌++◌, ◌∷◌, ◌∙◌, ℕ, zero, suc, List, [], Some, slice_get, length, length-append, map, take, get_or, sym, ap, subst, arith}
use Rattle.watch_word.specs.Logs.{Cell}
use Rattle.radix_node.specs.CellNode.{cell_edge, led_node}
use Rattle.radix_node.specs.Cells.{CellNode, CellNodes, no_cells, celled, CellTree, Piece, a_node, cells_in, cells_of, leaf_pieces, node_pieces, piece_cell, pieces_of, root_of}
use Rattle.radix_node.specs.Left.{all_cells}
use Rattle.radix_node.specs.Paths.{Has}
use Rattle.radix_node.specs.declared.edge.Edge.{Edge}
use Rattle.radix_node.proofs.Members.{cell_piece, has_cell, node_no_leaf, same_node}
use Rattle.radix_node.proofs.Paths.{Has-left, Has-right, Has-split}
use Rattle.notify_walk.specs.inner.Parts.{AreNodesOf, IsNodeOf, cells_at, nodes_at}

-- the pieces in a node, but itself
abbrev pub inside : CellNode → List Piece
inside n = leaf_pieces n.leaf ++ node_pieces n.under

-- ---- what is in a piece is a piece too

in_longer : (x : Piece) (xs ys zs : List Piece) → Has x (xs ++ ys) → Has x (xs ++ (ys ++ zs))
in_longer x xs ys zs h =
    elim (Has-split x xs ys h) [
      | inl a ↦ Has-left x xs (ys ++ zs) a
      | inr b ↦ Has-right x xs (ys ++ zs) (Has-left x ys zs b)
    ]

in_nodes : (n : CellNode) (ns : CellNodes) → Has (a_node n) (node_pieces ns) → (x : Piece) → Has x (inside n) → Has x (node_pieces ns)
in_nodes n no_cells h x i = absurd h
in_nodes n (celled cell prefix leaf under later) (inl e) x i =
    let here : CellNode = record { cell = cell; prefix = prefix; leaf = leaf; under = under } in
    inr (in_longer x (leaf_pieces leaf) (node_pieces under) (node_pieces later) (subst (λ (m : CellNode). Has x (inside m)) (same_node n here e) i))
in_nodes n (celled cell prefix leaf under later) (inr h) x i =
    let rest = node_pieces under ++ node_pieces later in
    inr (elim (Has-split (a_node n) (leaf_pieces leaf) rest h) [
      | inl a ↦ absurd (node_no_leaf n leaf a)
      | inr b ↦ Has-right x (leaf_pieces leaf) rest (elim (Has-split (a_node n) (node_pieces under) (node_pieces later) b) [
        | inl c ↦ Has-left x (node_pieces under) (node_pieces later) (in_nodes n under c x i)
        | inr d ↦ Has-right x (node_pieces under) (node_pieces later) (in_nodes n later d x i)
      ])
    ])

pub in_tree : (n : CellNode) (t : CellTree) → Has (a_node n) (pieces_of t) → (x : Piece) → Has x (inside n) → Has x (pieces_of t)
in_tree n t (inl e) x i = inr (subst (λ (m : CellNode). Has x (inside m)) (same_node n (root_of t) e) i)
in_tree n t (inr h) x i =
    inr (elim (Has-split (a_node n) (leaf_pieces t.leaf) (node_pieces t.nodes) h) [
      | inl a ↦ absurd (node_no_leaf n t.leaf a)
      | inr b ↦ Has-right x (leaf_pieces t.leaf) (node_pieces t.nodes) (in_nodes n t.nodes b x i)
    ])

pub cells_in_tree : (n : CellNode) (t : CellTree) → Has (a_node n) (pieces_of t) → (c : Cell) → Has c (all_cells n) → Has c (cells_of t)
cells_in_tree n t h c (inl e) = subst (λ (d : Cell). Has d (cells_of t)) (sym e) (has_cell (a_node n) (pieces_of t) h)
cells_in_tree n t h c (inr i) =
    let w = cell_piece c (inside n) i in
    subst (λ (d : Cell). Has d (cells_of t)) w.2 (has_cell w.0 (pieces_of t) (in_tree n t h w.0 w.1))

-- the cells in a node are those of its leaf and those under it
pub leaf_cells : (n : CellNode) (c : Cell) → Has c (map piece_cell (leaf_pieces n.leaf)) → Has c (all_cells n)
leaf_cells n c h =
    let w = cell_piece c (leaf_pieces n.leaf) h in
    inr (subst (λ (d : Cell). Has d (map piece_cell (inside n))) w.2 (has_cell w.0 (inside n) (Has-left w.0 (leaf_pieces n.leaf) (node_pieces n.under) w.1)))

pub under_cells : (n : CellNode) (c : Cell) → Has c (map piece_cell (node_pieces n.under)) → Has c (all_cells n)
under_cells n c h =
    let w = cell_piece c (node_pieces n.under) h in
    inr (subst (λ (d : Cell). Has d (map piece_cell (inside n))) w.2 (has_cell w.0 (inside n) (Has-right w.0 (leaf_pieces n.leaf) (node_pieces n.under) w.1)))

pub split_cells : (n : CellNode) (c : Cell) → Has c (map piece_cell (inside n)) → Has c (map piece_cell (leaf_pieces n.leaf)) ⊎ Has c (map piece_cell (node_pieces n.under))
split_cells n c h =
    let w = cell_piece c (inside n) h in
    elim (Has-split w.0 (leaf_pieces n.leaf) (node_pieces n.under) w.1) [
      | inl a ↦ inl (subst (λ (d : Cell). Has d (map piece_cell (leaf_pieces n.leaf))) w.2 (has_cell w.0 (leaf_pieces n.leaf) a))
      | inr b ↦ inr (subst (λ (d : Cell). Has d (map piece_cell (node_pieces n.under))) w.2 (has_cell w.0 (node_pieces n.under) b))
    ]

-- ---- at one of the edges

-- a node lies among nodes
abbrev Lies : CellNode → CellNodes → Type 0
Lies n ns = Has (a_node n) (node_pieces ns)

pub edge_lies : (es : List Edge) (i : ℕ) (e : Edge) → i < length es → e ≡ get_or es i e → Lies (led_node e) (nodes_at es)
edge_lies [] i e lt read = absurd (omega (arith, lt))
edge_lies (d ∷ es) zero e lt read = inl (ap (λ (z : Edge). a_node (led_node z)) read)
edge_lies (d ∷ es) (suc i) e lt read =
    let n = (cell_edge d).node in
    inr (Has-right (a_node (led_node e)) (leaf_pieces n.leaf) (node_pieces n.under ++ node_pieces (nodes_at es)) (Has-right (a_node (led_node e)) (node_pieces n.under) (node_pieces (nodes_at es)) (edge_lies es i e (omega (arith, lt)) read)))

-- and so it is one of the tree's, if they are
pub edge_of_tree : (es : List Edge) (i : ℕ) (e : Edge) (t : CellTree) → i < length es → e ≡ get_or es i e → AreNodesOf (nodes_at es) t → IsNodeOf (cell_edge e).node t
edge_of_tree es i e t lt read all = record { prefix = (led_node e).prefix; there = all (a_node (led_node e)) (edge_lies es i e lt read) }

pub edge_cells : (es : List Edge) (i : ℕ) (e : Edge) → i < length es → e ≡ get_or es i e → (c : Cell) → Has c (all_cells (cell_edge e).node) → Has c (cells_at es)
edge_cells es i e lt read c (inl same) = subst (λ (d : Cell). Has d (cells_at es)) (sym same) (has_cell (a_node (led_node e)) (node_pieces (nodes_at es)) (edge_lies es i e lt read))
edge_cells es i e lt read c (inr h) =
    let w = cell_piece c (inside (led_node e)) h in
    subst (λ (d : Cell). Has d (cells_at es)) w.2 (has_cell w.0 (node_pieces (nodes_at es)) (in_nodes (led_node e) (nodes_at es) (edge_lies es i e lt read) w.0 w.1))

-- one edge more
piece_next : (es : List Edge) (i : ℕ) (e : Edge) → i < length es → e ≡ get_or es i e → (x : Piece) → Has x (node_pieces (nodes_at (take (suc i) es))) → Has x (node_pieces (nodes_at (take i es))) ⊎ ((x ≡ a_node (led_node e)) ⊎ Has x (inside (led_node e)))
piece_next [] i e lt read x h = absurd (omega (arith, lt))
piece_next (d ∷ es) zero e lt read x (inl same) = inr (inl (same ∙ ap (λ (z : Edge). a_node (led_node z)) (sym read)))
piece_next (d ∷ es) zero e lt read x (inr h) =
    let n = led_node d in
    inr (inr (subst (λ (z : Edge). Has x (inside (led_node z))) (sym read) (elim (Has-split x (leaf_pieces n.leaf) (node_pieces n.under ++ []) h) [
      | inl a ↦ Has-left x (leaf_pieces n.leaf) (node_pieces n.under) a
      | inr b ↦ Has-right x (leaf_pieces n.leaf) (node_pieces n.under) (elim (Has-split x (node_pieces n.under) [] b) [ inl c ↦ c | inr none ↦ absurd none ])
    ])))
piece_next (d ∷ es) (suc i) e lt read x (inl same) = inl (inl same)
piece_next (d ∷ es) (suc i) e lt read x (inr h) =
    let n = led_node d in
    let now = node_pieces (nodes_at (take (suc i) es)) in
    let before = node_pieces (nodes_at (take i es)) in
    elim (Has-split x (leaf_pieces n.leaf) (node_pieces n.under ++ now) h) [
      | inl a ↦ inl (inr (Has-left x (leaf_pieces n.leaf) (node_pieces n.under ++ before) a))
      | inr b ↦ elim (Has-split x (node_pieces n.under) now b) [
        | inl c ↦ inl (inr (Has-right x (leaf_pieces n.leaf) (node_pieces n.under ++ before) (Has-left x (node_pieces n.under) before c)))
        | inr r ↦ elim (piece_next es i e (omega (arith, lt)) read x r) [
          | inl old ↦ inl (inr (Has-right x (leaf_pieces n.leaf) (node_pieces n.under ++ before) (Has-right x (node_pieces n.under) before old)))
          | inr new ↦ inr new
        ]
      ]
    ]

pub cells_next : (es : List Edge) (i : ℕ) (e : Edge) → i < length es → e ≡ get_or es i e → (c : Cell) → Has c (cells_at (take (i + 1) es)) → Has c (cells_at (take i es)) ⊎ Has c (all_cells (cell_edge e).node)
cells_next es i e lt read c h =
    let more : i + 1 ≡ suc i = omega arith in
    let w = cell_piece c (node_pieces (nodes_at (take (suc i) es))) (subst (λ (k : ℕ). Has c (cells_at (take k es))) more h) in
    elim (piece_next es i e lt read w.0 w.1) [
      | inl old ↦ inl (subst (λ (d : Cell). Has d (cells_at (take i es))) w.2 (has_cell w.0 (node_pieces (nodes_at (take i es))) old))
      | inr new ↦ inr (elim new [
        | inl same ↦ inl (sym w.2 ∙ ap piece_cell same)
        | inr h ↦ inr (subst (λ (d : Cell). Has d (map piece_cell (inside (led_node e)))) w.2 (has_cell w.0 (inside (led_node e)) h))
      ])
    ]

-- ---- how much there is to walk

abbrev pub size : CellNodes → ℕ
size ns = length (node_pieces ns)

size_of : (leaf : List Piece) (under later : CellNodes) → size under + size later < suc (length (leaf ++ (node_pieces under ++ node_pieces later)))
size_of leaf under later = omega (arith, length-append leaf (node_pieces under ++ node_pieces later), length-append (node_pieces under) (node_pieces later))

pub size_less : (es : List Edge) (i : ℕ) (e : Edge) → i < length es → e ≡ get_or es i e → size (cell_edge e).node.under < size (nodes_at es)
size_less [] i e lt read = absurd (omega (arith, lt))
size_less (d ∷ es) zero e lt read =
    let n = (cell_edge d).node in
    let all = size_of (leaf_pieces n.leaf) n.under (nodes_at es) in
    let same = ap (λ (z : Edge). size (cell_edge z).node.under) read in
    omega (arith, all, same)
size_less (d ∷ es) (suc i) e lt read =
    let n = (cell_edge d).node in
    let all = size_of (leaf_pieces n.leaf) n.under (nodes_at es) in
    let rest = size_less es i e (omega (arith, lt)) read in
    omega (arith, all, rest)

-- under the first node there is less
pub first_less : (ns : List CellNode) (m : CellNode) → Some m ≡ slice_get ns 0 → size m.under < size (cells_in ns)
first_less [] m at = absurd cc
first_less (n ∷ ns) m at =
    let same : m ≡ n = cc in
    let all = size_of (leaf_pieces n.leaf) n.under (cells_in ns) in
    omega (arith, all, ap (λ (k : CellNode). size k.under) same)
