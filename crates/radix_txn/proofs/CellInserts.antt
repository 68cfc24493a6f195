-- An insert, as it is made node by node, is steps over pieces.
use Rattle.std.proofs.Common.{◌≡◌, ◌+◌, ◌≤◌, ◌++◌, ◌∷◌, ◌∙◌, ℕ, zero, suc, List, [], take, drop, Some, Ok, refl, sym, ap, subst, arith}
use Rattle.std.specs.List.{slice_get}
use Rattle.mdb_datum.specs.Bytes.{Bytes}
use Rattle.watch_word.specs.Logs.{Cell, Log}
use Rattle.radix_node.specs.Cells.{CellLeaf, CellNode, CellNodes, no_cells, celled, Piece, a_leaf, node_pieces, cells_in}
use Rattle.radix_node.specs.CellNode.{cell_edge, cell_edges, led_node}
use Rattle.radix_node.specs.Edges.{place_of}
use Rattle.radix_node.specs.Node.{edge_node, edges_of, nodes_in, plain_edge}
use Rattle.radix_node.specs.declared.edge.Edge.{Edge}
use Rattle.radix_node.specs.declared.edges.Edges.{Edges}
use Rattle.radix_node.proofs.CellEdges.{same_label}
use Rattle.radix_node.proofs.EdgeSearch.{edge_at_place, edge_label}
use Rattle.radix_node.specs.Left.{leave, leave_leaf}
use Rattle.radix_node.specs.Siblings.{cells_list}
use Rattle.radix_txn.specs.inner.Pieces.{led, inside_of, inside, whole}
use Rattle.radix_txn.specs.inner.Steps.{IsStep, Ledger, IsOnward, Steps, one_drawn, one_left, leaf_left, IsNew, IsNext, IsNextOf}
use Rattle.radix_txn.proofs.CellEdits.{pieces_one, step_middle, step_remade, step_leaf, step_new}
use Rattle.radix_txn.proofs.Steps.{at}

-- ---- lists of nodes

pub cells_list_in : (ns : List CellNode) → cells_list (cells_in ns) ≡ ns
cells_list_in [] = refl
cells_list_in (n ∷ ns) = ap (λ (ms : List CellNode). n ∷ ms) (cells_list_in ns)

pub cells_in_list : (ns : CellNodes) → cells_in (cells_list ns) ≡ ns
cells_in_list no_cells = refl
cells_in_list (celled cell prefix leaf under later) = ap (celled cell prefix leaf under) (cells_in_list later)

pub cells_list_of : (es : List CellNode) (under : CellNodes) → cells_in es ≡ under → es ≡ cells_list under
cells_list_of es under e = sym (cells_list_in es) ∙ ap cells_list e

-- a list is its front and its back
pub at_gap : (at : ℕ) (es : List CellNode) → es ≡ take at es ++ drop at es
at_gap zero es = refl
at_gap (suc at) [] = refl
at_gap (suc at) (e ∷ es) = ap (λ (ns : List CellNode). e ∷ ns) (at_gap at es)

at_one : (at : ℕ) (es : List CellNode) (k : CellNode) → slice_get es at ≡ Some k → es ≡ take at es ++ k ∷ drop (suc at) es
at_one at [] k e = cc
at_one zero (x ∷ es) k e = let same : x ≡ k = cc in ap (λ (n : CellNode). n ∷ es) same
at_one (suc at) (x ∷ es) k e = ap (λ (ns : List CellNode). x ∷ ns) (at_one at es k e)

pub at_place : (at : ℕ) (es : List CellNode) (k : CellNode) → slice_get es at ≡ Some k → es ≡ take at es ++ k ∷ drop (at + 1) es
at_place at es k e = let next : suc at ≡ at + 1 = omega arith in at_one at es k e ∙ ap (λ i. take at es ++ k ∷ drop i es) next

-- ---- a leaf at the node itself

pub leaf_step : (l : CellLeaf) (n m : CellNode) (c : Cell) (a d : Ledger) → a.first ≤ a.next → IsNextOf a c → m ≡ (let w : CellNode = record { cell = c; prefix = n.prefix; leaf = Some l; under = n.under } in w) → d ≡ one_left n.cell (leaf_left n.leaf (one_drawn a)) → (front : Bytes) → Steps (a_leaf l ∷ whole (led front n)) a (whole (led front m)) d
leaf_step l n m c a d begun id is after front =
    let new : CellNode = record { cell = c; prefix = n.prefix; leaf = Some l; under = n.under } in
    let step = step_remade (IsNew a.log) a.first front n (a_leaf l ∷ []) (inside_of (Some l) n.under) a.next a.next a.left (leave_leaf a.first n.leaf a.left) new refl id (step_leaf (IsNew a.log) a.first l a.next a.left begun n.leaf n.under) in
    subst (λ (w : CellNode). Steps (a_leaf l ∷ whole (led front n)) a (whole (led front w)) d) (sym is)
    (subst (λ (w : Ledger). Steps (a_leaf l ∷ whole (led front n)) a (whole (led front new)) w) (sym after) step)

-- ---- a change at an edge

module _ (l : CellLeaf) (n m e : CellNode) (start end : ℕ) (ks : List CellNode) (c : Cell) (a b d : Ledger) where
  pub edge_step : (let es = cells_list n.under in es ≡ take start es ++ (ks ++ drop end es)) → Steps (a_leaf l ∷ node_pieces (cells_in ks)) a (node_pieces (cells_in (e ∷ []))) b → IsOnward a b → IsNextOf b c → (let es = cells_list n.under in m ≡ (let w : CellNode = record { cell = c; prefix = n.prefix; leaf = n.leaf; under = cells_in (take start es ++ e ∷ drop end es) } in w)) → d ≡ one_left n.cell (one_drawn b) → (front : Bytes) → Steps (a_leaf l ∷ whole (led front n)) a (whole (led front m)) d
  edge_step whole_is inner onward id is after front =
      let es = cells_list n.under in
      let xs = take start es in
      let ys = drop end es in
      let new : CellNode = record { cell = c; prefix = n.prefix; leaf = n.leaf; under = cells_in (xs ++ e ∷ ys) } in
      let old : inside_of n.leaf (cells_in (xs ++ (ks ++ ys))) ≡ inside n = ap (inside_of n.leaf) (ap cells_in (sym whole_is) ∙ cells_in_list n.under) in
      let middle = step_middle (IsNew a.log) a.first (a_leaf l ∷ []) n.leaf xs ks (e ∷ []) ys a.next b.next a.left b.left inner in
      let step = step_remade (IsNew a.log) a.first front n (a_leaf l ∷ []) (inside new) a.next b.next a.left b.left new refl (subst (λ (k : Log). IsNext (IsNew k) b.next c) onward.log id)
      (subst (λ (zs : List Piece). IsStep (IsNew a.log) a.first (at (a_leaf l ∷ zs) a.next a.left) (at (inside new) b.next b.left)) old middle) in
      subst (λ (w : CellNode). Steps (a_leaf l ∷ whole (led front n)) a (whole (led front w)) d) (sym is)
      (subst (λ (w : Ledger). Steps (a_leaf l ∷ whole (led front n)) a (whole (led front new)) w) (sym after)
      (subst (λ f. IsStep (IsNew a.log) a.first (at (a_leaf l ∷ whole (led front n)) a.next a.left) (at (whole (led front new)) (b.next + 1) (leave f n.cell b.left))) (sym onward.first) step))

-- ---- a new node at a new edge

pub gap_step : (l : CellLeaf) (n m e : CellNode) (at : ℕ) (c0 c : Cell) (a b d : Ledger) → a.first ≤ a.next → IsNextOf a c0 → (p : Bytes) → e ≡ (let w : CellNode = record { cell = c0; prefix = p; leaf = Some l; under = no_cells } in w) → b ≡ one_drawn a → IsNextOf b c → (let es = cells_list n.under in m ≡ (let w : CellNode = record { cell = c; prefix = n.prefix; leaf = n.leaf; under = cells_in (take at es ++ e ∷ drop at es) } in w)) → d ≡ one_left n.cell (one_drawn b) → (front : Bytes) → Steps (a_leaf l ∷ whole (led front n)) a (whole (led front m)) d
gap_step l n m e at c0 c a b d begun id0 p is_e drawn id is after front =
    let made = step_new (IsNew a.log) a.first l a.next a.left begun e (subst (λ (w : CellNode). IsNextOf a w.cell) (sym is_e) id0) (ap (λ (w : CellNode). w.leaf) is_e) (ap (λ (w : CellNode). w.under) is_e) in
    let inner : Steps (a_leaf l ∷ node_pieces (cells_in [])) a (node_pieces (cells_in (e ∷ []))) b = subst (λ (w : Ledger). Steps (a_leaf l ∷ node_pieces (cells_in [])) a (node_pieces (cells_in (e ∷ []))) w) (sym drawn) made in
    edge_step l n m e at at [] c a b d (at_gap at (cells_list n.under)) inner
    (record { log = ap (λ (w : Ledger). w.log) drawn; first = ap (λ (w : Ledger). w.first) drawn })
    id is after front

-- ---- another node at an edge

pub place_step : (l : CellLeaf) (n m k r : CellNode) (x at : ℕ) (c : Cell) (a b d : Ledger) → slice_get (cells_list n.under) at ≡ Some (led (x ∷ []) k) → ((front : Bytes) → Steps (a_leaf l ∷ whole (led front k)) a (whole (led front r)) b) → IsOnward a b → IsNextOf b c → (let es = cells_list n.under in m ≡ (let w : CellNode = record { cell = c; prefix = n.prefix; leaf = n.leaf; under = cells_in (take at es ++ led (x ∷ []) r ∷ drop (at + 1) es) } in w)) → d ≡ one_left n.cell (one_drawn b) → (front : Bytes) → Steps (a_leaf l ∷ whole (led front n)) a (whole (led front m)) d
place_step l n m k r x at c a b d there inner onward id is after front =
    let old = led (x ∷ []) k in
    let new = led (x ∷ []) r in
    let step : Steps (a_leaf l ∷ node_pieces (cells_in (old ∷ []))) a (node_pieces (cells_in (new ∷ []))) b =
    subst (λ (zs : List Piece). Steps (a_leaf l ∷ zs) a (node_pieces (cells_in (new ∷ []))) b) (sym (pieces_one old))
    (subst (λ (zs : List Piece). Steps (a_leaf l ∷ whole old) a zs b) (sym (pieces_one new)) (inner (x ∷ []))) in
    edge_step l n m new at (at + 1) (old ∷ []) c a b d (at_place at (cells_list n.under) old there) step onward id is after front

-- ---- edges in memory

-- the node at the edge that was found, with the byte for its label
pub led_at : (x : ℕ) (edges : Edges) (at : ℕ) (e : Edge) (child : CellNode) (under : CellNodes) → cells_in (cell_edges edges) ≡ under → slice_get (cell_edges edges) at ≡ Some (led_node e) → slice_get (edges_of edges) at ≡ Some (edge_node e) → Ok at ≡ place_of x (edges_of edges) → child ≡ (cell_edge e).node → slice_get (cells_list under) at ≡ Some (led (x ∷ []) child)
led_at x edges at e child under is there plain found same =
    let label : (cell_edge e).label ≡ x = sym (same_label e) ∙ edge_label x (nodes_in (edges_of edges)) (plain_edge e) (edge_at_place x (nodes_in (edges_of edges)) (edges_of edges) at (edge_node e) refl plain found) in
    ap (λ (ns : List CellNode). slice_get ns at) (sym (cells_list_of (cell_edges edges) under is)) ∙ there
    ∙ (λ i. Some (led (label i ∷ []) (sym same i)))

-- the same node among the edges of another
pub led_in : (n : CellNode) (at : ℕ) (c : Cell) {m r : CellNode} → m ≡ r → (let es = cells_list n.under in let w : CellNode = record { cell = c; prefix = n.prefix; leaf = n.leaf; under = cells_in (take at es ++ m ∷ drop (at + 1) es) } in w) ≡ (let es = cells_list n.under in let w : CellNode = record { cell = c; prefix = n.prefix; leaf = n.leaf; under = cells_in (take at es ++ r ∷ drop (at + 1) es) } in w)
led_in n at c e = λ i. record { cell = c; prefix = n.prefix; leaf = n.leaf; under = cells_in (take at (cells_list n.under) ++ e i ∷ drop (at + 1) (cells_list n.under)) }

pub there_in : (edges : Edges) (at : ℕ) (n : CellNode) (under : CellNodes) → cells_in (cell_edges edges) ≡ under → slice_get (cell_edges edges) at ≡ Some n → slice_get (cells_list under) at ≡ Some n
there_in edges at n under is there = ap (λ (ns : List CellNode). slice_get ns at) (sym (cells_list_of (cell_edges edges) under is)) ∙ there
