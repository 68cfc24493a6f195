-- What each kind of edit does to the pieces of a node.
use Rattle.std.proofs.Common.{◌≡◌, ◌+◌, ◌≤◌, ◌++◌, ◌∷◌, ◌∙◌, ℕ, List, [], Option, Some, None, refl, sym, ap, subst, arith, append_assoc}
use Rattle.std.proofs.lemmas.List.{append-nil}
use Rattle.mdb_datum.specs.Bytes.{Bytes}
use Rattle.watch_word.specs.Logs.{Cell}
use Rattle.radix_node.specs.Cells.{CellLeaf, CellNode, CellNodes, no_cells, Piece, a_node, a_leaf, leaf_pieces, node_pieces, cells_in}
use Rattle.radix_node.specs.Left.{leave, leave_leaf}
use Rattle.radix_txn.specs.inner.Pieces.{led, inside_of, inside, whole}
use Rattle.radix_txn.specs.inner.Steps.{IsStep, IsNext}
use Rattle.radix_txn.proofs.Steps.{at, SameBag, bag_is, bag_swap, bag_under, bag_then, bag_front, step_same, step_then, step_bag, step_from, step_beside, step_made, step_gone, step_in_place}

-- ---- nodes side by side

pub pieces_join : (xs ys : List CellNode) → node_pieces (cells_in (xs ++ ys)) ≡ node_pieces (cells_in xs) ++ node_pieces (cells_in ys)
pieces_join [] ys = refl
pieces_join (n ∷ xs) ys =
    let rest = node_pieces (cells_in xs) in
    let more = node_pieces (cells_in ys) in
    ap (λ (zs : List Piece). a_node n ∷ (leaf_pieces n.leaf ++ (node_pieces n.under ++ zs))) (pieces_join xs ys)
    ∙ ap (λ (zs : List Piece). a_node n ∷ (leaf_pieces n.leaf ++ zs)) (sym (append_assoc (node_pieces n.under) rest more))
    ∙ ap (λ (zs : List Piece). a_node n ∷ zs) (sym (append_assoc (leaf_pieces n.leaf) (node_pieces n.under ++ rest) more))

pub pieces_one : (n : CellNode) → node_pieces (cells_in (n ∷ [])) ≡ whole n
pieces_one n = ap (λ (zs : List Piece). a_node n ∷ (leaf_pieces n.leaf ++ zs)) (append-nil (node_pieces n.under))

-- ---- among the nodes under a node

module _ (P : Cell → Type 0) (first : ℕ) (loose : List Piece) (leaf : Option CellLeaf) (xs ks js ys : List CellNode) (n0 n1 : ℕ) (l0 l1 : List Cell) where
  front : List Piece
  front = leaf_pieces leaf ++ node_pieces (cells_in xs)

  -- the pieces, with those of some nodes in the middle
  middle : (ns : List CellNode) → inside_of leaf (cells_in (xs ++ (ns ++ ys))) ≡ front ++ (node_pieces (cells_in ns) ++ node_pieces (cells_in ys))
  unfolding front
  middle ns =
      ap (λ (zs : List Piece). leaf_pieces leaf ++ zs) (pieces_join xs (ns ++ ys) ∙ ap (λ (zs : List Piece). node_pieces (cells_in xs) ++ zs) (pieces_join ns ys))
      ∙ sym (append_assoc (leaf_pieces leaf) (node_pieces (cells_in xs)) (node_pieces (cells_in ns) ++ node_pieces (cells_in ys)))

  -- an edit of some nodes is one of them all
  pub step_middle : IsStep P first (at (loose ++ node_pieces (cells_in ks)) n0 l0) (at (node_pieces (cells_in js)) n1 l1) → IsStep P first (at (loose ++ inside_of leaf (cells_in (xs ++ (ks ++ ys)))) n0 l0) (at (inside_of leaf (cells_in (xs ++ (js ++ ys)))) n1 l1)
  step_middle s =
      let old = node_pieces (cells_in ks) in
      let new = node_pieces (cells_in js) in
      let back = node_pieces (cells_in ys) in
      let is : loose ++ inside_of leaf (cells_in (xs ++ (ks ++ ys))) ≡ loose ++ (front ++ (old ++ back)) = ap (λ (zs : List Piece). loose ++ zs) (middle ks) in
      let to : SameBag (loose ++ inside_of leaf (cells_in (xs ++ (ks ++ ys)))) ((loose ++ old) ++ (front ++ back)) =
      bag_then _ _ _ (bag_is _ _ is)
      (bag_then _ _ _ (bag_under loose (front ++ (old ++ back)) (old ++ (front ++ back)) (bag_front front old back)) (bag_is _ _ (sym (append_assoc loose old (front ++ back))))) in
      let of : SameBag (new ++ (front ++ back)) (inside_of leaf (cells_in (xs ++ (js ++ ys)))) = bag_then _ _ _ (bag_front new front back) (bag_is _ _ (sym (middle js))) in
      step_from P first _ ((loose ++ old) ++ (front ++ back)) n0 l0 (at (inside_of leaf (cells_in (xs ++ (js ++ ys)))) n1 l1) to
      (step_bag P first (at ((loose ++ old) ++ (front ++ back)) n0 l0) (at (new ++ (front ++ back)) n1 l1) (step_beside P first (at (loose ++ old) n0 l0) (at new n1 l1) s (front ++ back)) _ of)

-- ---- the node itself

module _ (P : Cell → Type 0) (first : ℕ) (bytes : Bytes) (n : CellNode) (loose new : List Piece) (n0 n1 : ℕ) (l0 l1 : List Cell) where
  -- it goes
  pub step_unmade : IsStep P first (at (loose ++ inside n) n0 l0) (at new n1 l1) → IsStep P first (at (loose ++ whole (led bytes n)) n0 l0) (at new n1 (leave first n.cell l1))
  step_unmade s =
      let top = a_node (led bytes n) in
      let to : SameBag (loose ++ whole (led bytes n)) ((loose ++ inside n) ++ top ∷ []) =
      bag_then _ _ _ (bag_under loose (top ∷ inside n) (inside n ++ top ∷ []) (bag_swap (top ∷ []) (inside n))) (bag_is _ _ (sym (append_assoc loose (inside n) (top ∷ [])))) in
      let begun = s.begun in
      let later = s.later in
      step_from P first _ ((loose ++ inside n) ++ top ∷ []) n0 l0 (at new n1 (leave first n.cell l1)) to
      (step_then P first
      (step_bag P first (at ((loose ++ inside n) ++ top ∷ []) n0 l0) (at (new ++ top ∷ []) n1 l1) (step_beside P first (at (loose ++ inside n) n0 l0) (at new n1 l1) s (top ∷ [])) (top ∷ new) (bag_swap new (top ∷ [])))
      (step_gone P first top new n1 l1 (omega (arith, begun, later))))

  -- and another one comes in its place
  pub step_remade : (m : CellNode) → new ≡ inside m → IsNext P n1 m.cell → IsStep P first (at (loose ++ inside n) n0 l0) (at new n1 l1) → IsStep P first (at (loose ++ whole (led bytes n)) n0 l0) (at (whole (led bytes m)) (n1 + 1) (leave first n.cell l1))
  step_remade m is id s =
      let begun = s.begun in
      let later = s.later in
      step_then P first (step_unmade s)
      (subst (λ (zs : List Piece). IsStep P first (at new n1 (leave first n.cell l1)) (at (a_node (led bytes m) ∷ zs) (n1 + 1) (leave first n.cell l1))) is
      (step_made P first (a_node (led bytes m)) new n1 (leave first n.cell l1) (omega (arith, begun, later)) id))

-- ---- inserts, where a leaf is ready and goes into the tree

module _ (P : Cell → Type 0) (first : ℕ) (l : CellLeaf) (n0 : ℕ) (l0 : List Cell) (begun : first ≤ n0) where
  -- it takes the place of a node's leaf
  pub step_leaf : (leaf : Option CellLeaf) (under : CellNodes) → IsStep P first (at (a_leaf l ∷ inside_of leaf under) n0 l0) (at (inside_of (Some l) under) n0 (leave_leaf first leaf l0))
  step_leaf None under = step_same P first (at (a_leaf l ∷ node_pieces under) n0 l0) begun
  step_leaf (Some k) under =
      step_from P first _ (a_leaf k ∷ (a_leaf l ∷ node_pieces under)) n0 l0 (at (a_leaf l ∷ node_pieces under) n0 (leave first k.cell l0)) (bag_front (a_leaf l ∷ []) (a_leaf k ∷ []) (node_pieces under))
      (step_gone P first (a_leaf k) (a_leaf l ∷ node_pieces under) n0 l0 begun)

  -- it comes into a new node at a new edge
  pub step_new : (c : CellNode) → IsNext P n0 c.cell → c.leaf ≡ Some l → c.under ≡ no_cells → IsStep P first (at (a_leaf l ∷ node_pieces (cells_in [])) n0 l0) (at (node_pieces (cells_in (c ∷ []))) (n0 + 1) l0)
  step_new c id leaf under =
      let is : a_leaf l ∷ [] ≡ inside_of c.leaf c.under = λ i. inside_of (sym leaf i) (sym under i) in
      subst (λ (zs : List Piece). IsStep P first (at (a_leaf l ∷ []) n0 l0) (at zs (n0 + 1) l0)) (ap (λ (zs : List Piece). a_node c ∷ zs) is ∙ sym (pieces_one c))
      (step_made P first (a_node c) (a_leaf l ∷ []) n0 l0 begun id)

  -- a node is split: a copy has the rest of its prefix
  module _ (k lower : CellNode) (id : IsNext P n0 lower.cell) (same : inside lower ≡ inside k) where
    step_lower : IsStep P first (at (a_leaf l ∷ whole k) n0 l0) (at (whole lower ++ a_leaf l ∷ []) (n0 + 1) (leave first k.cell l0))
    step_lower =
        let loose = a_leaf l ∷ [] in
        let to : SameBag (loose ++ whole k) (a_node k ∷ (inside k ++ loose)) = bag_swap loose (whole k) in
        step_from P first _ (a_node k ∷ (inside k ++ loose)) n0 l0 (at (whole lower ++ loose) (n0 + 1) (leave first k.cell l0)) to
        (step_then P first (step_gone P first (a_node k) (inside k ++ loose) n0 l0 begun)
        (subst (λ (zs : List Piece). IsStep P first (at (inside k ++ loose) n0 (leave first k.cell l0)) (at (a_node lower ∷ (zs ++ loose)) (n0 + 1) (leave first k.cell l0))) (sym same)
        (step_made P first (a_node lower) (inside k ++ loose) n0 (leave first k.cell l0) begun id)))

    old_one : a_leaf l ∷ node_pieces (cells_in (k ∷ [])) ≡ a_leaf l ∷ whole k
    old_one = ap (λ (zs : List Piece). a_leaf l ∷ zs) (pieces_one k)

    -- the key ends where they part
    pub step_split_end : (upper : CellNode) → IsNext P (n0 + 1) upper.cell → upper.leaf ≡ Some l → upper.under ≡ cells_in (lower ∷ []) → IsStep P first (at (a_leaf l ∷ node_pieces (cells_in (k ∷ []))) n0 l0) (at (node_pieces (cells_in (upper ∷ []))) ((n0 + 1) + 1) (leave first k.cell l0))
    step_split_end upper up leaf under =
        let is : a_leaf l ∷ whole lower ≡ inside upper = ap (λ (zs : List Piece). a_leaf l ∷ zs) (sym (pieces_one lower)) ∙ (λ i. inside_of (sym leaf i) (sym under i)) in
        let made = step_bag P first (at (a_leaf l ∷ whole k) n0 l0) (at (whole lower ++ a_leaf l ∷ []) (n0 + 1) (leave first k.cell l0)) step_lower (a_leaf l ∷ whole lower) (bag_swap (whole lower) (a_leaf l ∷ [])) in
        let all = step_then P first made (step_made P first (a_node upper) (a_leaf l ∷ whole lower) (n0 + 1) (leave first k.cell l0) (omega (arith, begun)) up) in
        subst (λ (zs : List Piece). IsStep P first (at zs n0 l0) (at (node_pieces (cells_in (upper ∷ []))) ((n0 + 1) + 1) (leave first k.cell l0))) (sym old_one)
        (subst (λ (zs : List Piece). IsStep P first (at (a_leaf l ∷ whole k) n0 l0) (at zs ((n0 + 1) + 1) (leave first k.cell l0))) (ap (λ (zs : List Piece). a_node upper ∷ zs) is ∙ sym (pieces_one upper)) all)

    -- or goes on in a new node beside the copy
    module _ (beside upper : CellNode) (next : IsNext P (n0 + 1) beside.cell) (leaf : beside.leaf ≡ Some l) (none : beside.under ≡ no_cells) (up : IsNext P ((n0 + 1) + 1) upper.cell) (bare : upper.leaf ≡ None) where
      step_beside_new : IsStep P first (at (a_leaf l ∷ whole k) n0 l0) (at (whole beside ++ whole lower) ((n0 + 1) + 1) (leave first k.cell l0))
      step_beside_new =
          let is : a_leaf l ∷ [] ≡ inside beside = λ i. inside_of (sym leaf i) (sym none i) in
          let made = step_bag P first (at (a_leaf l ∷ whole k) n0 l0) (at (whole lower ++ a_leaf l ∷ []) (n0 + 1) (leave first k.cell l0)) step_lower (a_leaf l ∷ whole lower) (bag_swap (whole lower) (a_leaf l ∷ [])) in
          let all = step_then P first made (step_made P first (a_node beside) (a_leaf l ∷ whole lower) (n0 + 1) (leave first k.cell l0) (omega (arith, begun)) next) in
          subst (λ (zs : List Piece). IsStep P first (at (a_leaf l ∷ whole k) n0 l0) (at (a_node beside ∷ (zs ++ whole lower)) ((n0 + 1) + 1) (leave first k.cell l0))) is all

      finished : (under : List Piece) → SameBag (whole beside ++ whole lower) under → under ≡ inside upper → IsStep P first (at (a_leaf l ∷ node_pieces (cells_in (k ∷ []))) n0 l0) (at (node_pieces (cells_in (upper ∷ []))) (((n0 + 1) + 1) + 1) (leave first k.cell l0))
      finished under bag is =
          let made = step_bag P first (at (a_leaf l ∷ whole k) n0 l0) (at (whole beside ++ whole lower) ((n0 + 1) + 1) (leave first k.cell l0)) step_beside_new under bag in
          let all = step_then P first made (step_made P first (a_node upper) under ((n0 + 1) + 1) (leave first k.cell l0) (omega (arith, begun)) up) in
          subst (λ (zs : List Piece). IsStep P first (at zs n0 l0) (at (node_pieces (cells_in (upper ∷ []))) (((n0 + 1) + 1) + 1) (leave first k.cell l0))) (sym old_one)
          (subst (λ (zs : List Piece). IsStep P first (at (a_leaf l ∷ whole k) n0 l0) (at zs (((n0 + 1) + 1) + 1) (leave first k.cell l0))) (ap (λ (zs : List Piece). a_node upper ∷ zs) is ∙ sym (pieces_one upper)) all)

      two : (a b : CellNode) → upper.under ≡ cells_in (a ∷ b ∷ []) → whole a ++ whole b ≡ inside upper
      two a b under =
          (λ i. sym (pieces_one a) i ++ sym (pieces_one b) i) ∙ sym (pieces_join (a ∷ []) (b ∷ [])) ∙ (λ i. inside_of (sym bare i) (sym under i))

      pub step_split_before : upper.under ≡ cells_in (beside ∷ lower ∷ []) → IsStep P first (at (a_leaf l ∷ node_pieces (cells_in (k ∷ []))) n0 l0) (at (node_pieces (cells_in (upper ∷ []))) (((n0 + 1) + 1) + 1) (leave first k.cell l0))
      step_split_before under = finished (whole beside ++ whole lower) (bag_is _ _ refl) (two beside lower under)

      pub step_split_after : upper.under ≡ cells_in (lower ∷ beside ∷ []) → IsStep P first (at (a_leaf l ∷ node_pieces (cells_in (k ∷ []))) n0 l0) (at (node_pieces (cells_in (upper ∷ []))) (((n0 + 1) + 1) + 1) (leave first k.cell l0))
      step_split_after under = finished (whole lower ++ whole beside) (bag_swap (whole beside) (whole lower)) (two lower beside under)

-- ---- deletes

-- a leaf goes
pub step_without_leaf : (P : Cell → Type 0) (first : ℕ) (l : CellLeaf) (leaf : Option CellLeaf) (under : CellNodes) (n0 : ℕ) (l0 : List Cell) → first ≤ n0 → leaf ≡ Some l → IsStep P first (at (inside_of leaf under) n0 l0) (at (inside_of None under) n0 (leave first l.cell l0))
step_without_leaf P first l leaf under n0 l0 begun is =
    subst (λ o. IsStep P first (at (inside_of o under) n0 l0) (at (node_pieces under) n0 (leave first l.cell l0))) (sym is)
    (step_gone P first (a_leaf l) (node_pieces under) n0 l0 begun)

-- what is left of a node stands as a node again
pub step_settled : (P : Cell → Type 0) (first : ℕ) (m : CellNode) (leaf : Option CellLeaf) (under : CellNodes) (n0 : ℕ) (l0 : List Cell) → first ≤ n0 → IsNext P n0 m.cell → m.leaf ≡ leaf → m.under ≡ under → IsStep P first (at (inside_of leaf under) n0 l0) (at (node_pieces (cells_in (m ∷ []))) (n0 + 1) l0)
step_settled P first m leaf under n0 l0 begun id f g =
    let is : inside_of leaf under ≡ inside m = λ i. inside_of (sym f i) (sym g i) in
    subst (λ (zs : List Piece). IsStep P first (at (inside_of leaf under) n0 l0) (at zs (n0 + 1) l0)) (ap (λ (zs : List Piece). a_node m ∷ zs) is ∙ sym (pieces_one m))
    (step_made P first (a_node m) (inside_of leaf under) n0 l0 begun id)

-- or nothing is left of it
pub step_nothing : (P : Cell → Type 0) (first : ℕ) (leaf : Option CellLeaf) (under : CellNodes) (n0 : ℕ) (l0 : List Cell) → first ≤ n0 → leaf ≡ None → under ≡ no_cells → IsStep P first (at (inside_of leaf under) n0 l0) (at (node_pieces (cells_in [])) n0 l0)
step_nothing P first leaf under n0 l0 begun f g =
    subst (λ (zs : List Piece). IsStep P first (at zs n0 l0) (at [] n0 l0)) (λ i. inside_of (sym f i) (sym g i)) (step_same P first (at [] n0 l0) begun)

-- ---- a node that keeps its cell

-- with other pieces in it
module _ (P : Cell → Type 0) (first : ℕ) (bytes : Bytes) (n m : CellNode) (loose : List Piece) (n0 n1 : ℕ) (l0 l1 : List Cell) (same : m.cell ≡ n.cell) (low : let c = n.cell in first ≤ c.id) where
  pub step_kept : IsStep P first (at (loose ++ inside n) n0 l0) (at (inside m) n1 l1) → IsStep P first (at (loose ++ whole (led bytes n)) n0 l0) (at (whole (led bytes m)) n1 l1)
  step_kept s =
      let top = a_node (led bytes n) in
      let new = inside m in
      let to : SameBag (loose ++ whole (led bytes n)) ((loose ++ inside n) ++ top ∷ []) =
      bag_then _ _ _ (bag_under loose (top ∷ inside n) (inside n ++ top ∷ []) (bag_swap (top ∷ []) (inside n))) (bag_is _ _ (sym (append_assoc loose (inside n) (top ∷ [])))) in
      let begun = s.begun in
      let later = s.later in
      step_from P first _ ((loose ++ inside n) ++ top ∷ []) n0 l0 (at (whole (led bytes m)) n1 l1) to
      (step_then P first
      (step_bag P first (at ((loose ++ inside n) ++ top ∷ []) n0 l0) (at (new ++ top ∷ []) n1 l1) (step_beside P first (at (loose ++ inside n) n0 l0) (at new n1 l1) s (top ∷ [])) (top ∷ new) (bag_swap new (top ∷ [])))
      (step_in_place P first top (a_node (led bytes m)) new n1 l1 (omega (arith, begun, later)) same low))
