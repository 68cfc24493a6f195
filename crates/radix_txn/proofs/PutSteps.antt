-- A put in place is steps over pieces, and what an insert is.
use Rattle.std.proofs.Common.{◌≡◌, ◌+◌, ◌<◌, ◌≤◌, ◌++◌, ◌∷◌, ◌∙◌, ℕ, List, [], length, map, take, drop, Option, Some, None, option_map, Ok, Err, refl, sym, ap, subst, arith}
use Rattle.std.proofs.lemmas.List.{drop-map, length-map, map-append, take-map}
use Rattle.std.proofs.lemmas.Option.{slice_get-map}
use Rattle.std.specs.List.{slice_get}
use Rattle.mdb_datum.specs.Bytes.{Bytes}
use Rattle.mdb_datum.specs.Row.{Fields, Pair}
use Rattle.watch_word.specs.Logs.{Cell}
use Rattle.radix_node.specs.CellNode.{CellEdge, cell_edge, cell_edges, cell_node, cell_ref, led_node}
use Rattle.radix_node.specs.CellNode as cell
use Rattle.radix_node.specs.Cells.{CellLeaf, CellNode, CellNodes, no_cells, celled, Piece, a_leaf, cells_in, node_pieces, plain_leaf, plain_nodes}
use Rattle.radix_node.specs.Edges.{place_of}
use Rattle.radix_node.specs.Left.{leave_leaf}
use Rattle.radix_node.specs.Lending.{with_edge, with_edges, with_ref}
use Rattle.radix_node.specs.Node.{PlainEdge, PlainNode, below, edges_of, nodes_in, plain_node, rest_past}
use Rattle.radix_node.specs.Nodes.{Nodes, no_nodes, node}
use Rattle.radix_node.specs.Seek.{seek_plain}
use Rattle.radix_node.specs.Siblings.{bare, cells_list, nodes_list}
use Rattle.radix_node.specs.declared.edge.Edge.{Edge}
use Rattle.radix_node.specs.declared.edges.Edges.{Edges}
use Rattle.radix_node.specs.declared.node.Node.{Node}
use Rattle.radix_node.specs.declared.node_ref.NodeRef.{NodeRef}
use Rattle.radix_node.proofs.CellLevels.{bare_cells, bare_node}
use Rattle.radix_node.proofs.EdgeSearch.{edge_at_place, edge_label}
use Rattle.radix_node.proofs.Lent.{cells_with_edge, cells_with_edges, cells_with_ref}
use Rattle.radix_node.proofs.LookupSteps.{left_shorter}
use Rattle.radix_txn.specs.declared.target.Target.TheVariants.{Key}
use Rattle.radix_txn.specs.inner.Below.{IsShapedBelow, insert_below, leaf_node, over, row_in}
use Rattle.radix_txn.specs.inner.Outside.{AllIn, outside_node}
use Rattle.radix_txn.specs.inner.Pieces.{led, inside, inside_of, whole}
use Rattle.radix_txn.specs.inner.Put.{IsPut, IsPutAt, IsPutUnder}
use Rattle.radix_txn.specs.inner.PutAt.{grown_node}
use Rattle.radix_txn.specs.inner.Steps.{Ledger, IsNew, IsNextOf, IsOnward, IsStep, Steps, leaf_left, one_drawn}
use Rattle.radix_txn.proofs.CellEdits.{pieces_one, step_kept, step_leaf, step_middle, step_new}
use Rattle.radix_txn.proofs.CellInserts.{at_gap, at_place, cells_in_list, cells_list_of, there_in}
use Rattle.radix_txn.proofs.ChildShape.{child_at}
use Rattle.radix_txn.proofs.EditStays.{edge_stays, end_stays, gap_stays, onward_stays, split_stays}
use Rattle.radix_txn.proofs.InsertSteps.{insert_gap, insert_onward, seek_gap, seeks}
use Rattle.radix_txn.proofs.SettledNode.{list_of}
use Rattle.radix_txn.proofs.Split.{apart_found, left_found, left_grown}
use Rattle.radix_txn.proofs.Steps.{at, step_in_place, step_made, step_then}

-- ---- nodes without their cells

pub bare_list : (u : CellNodes) → map bare (cells_list u) ≡ nodes_list (plain_nodes u)
bare_list no_cells = refl
bare_list (celled cell prefix leaf under later) = ap (λ (ns : List PlainNode). bare (record { cell = cell; prefix = prefix; leaf = leaf; under = under }) ∷ ns) (bare_list later)

pub nodes_in_list : (u : Nodes) → nodes_in (nodes_list u) ≡ u
nodes_in_list no_nodes = refl
nodes_in_list (node prefix leaf under later) = ap (node prefix leaf under) (nodes_in_list later)

pub bare_spliced : (u : CellNodes) (start end : ℕ) (e : CellNode) → plain_nodes (cells_in (take start (cells_list u) ++ e ∷ drop end (cells_list u))) ≡ nodes_in (take start (nodes_list (plain_nodes u)) ++ bare e ∷ drop end (nodes_list (plain_nodes u)))
bare_spliced u start end e =
    let cs = cells_list u in
    bare_cells (take start cs ++ e ∷ drop end cs)
    ∙ ap nodes_in (map-append bare (take start cs) (e ∷ drop end cs)
    ∙ (λ i. sym (take-map bare start cs) i ++ bare e ∷ sym (drop-map bare end cs) i)
    ∙ (λ i. take start (bare_list u i) ++ bare e ∷ drop end (bare_list u i)))

pub bare_length : (u : CellNodes) → length (cells_list u) ≡ length (nodes_list (plain_nodes u))
bare_length u = sym (length-map (cells_list u) bare) ∙ ap length (bare_list u)

pub bare_there : (u : CellNodes) (at : ℕ) (k : CellNode) → slice_get (cells_list u) at ≡ Some k → slice_get (nodes_list (plain_nodes u)) at ≡ Some (bare k)
bare_there u at k there = ap (λ (ns : List PlainNode). slice_get ns at) (sym (bare_list u)) ∙ slice_get-map bare (cells_list u) at ∙ ap (option_map bare) there

-- the edges in memory are the list of the nodes
pub edges_list : (owner : Node) (es : Edges) → (let n = plain_node owner in nodes_in (edges_of es) ≡ n.under) → edges_of es ≡ nodes_list (plain_nodes (cell_node owner).under)
edges_list owner es is = list_of _ _ is ∙ ap (λ (p : PlainNode). nodes_list p.under) (sym (bare_node owner))

-- ---- a leaf is made first

leaf_made : (l : CellLeaf) (xs ys : List Piece) (a b d : Ledger) → a.first ≤ a.next → IsNextOf a l.cell → b ≡ one_drawn a → Steps (a_leaf l ∷ xs) b ys d → Steps xs a ys d
leaf_made l xs ys a b d begun id drawn inner =
    let rest : Steps (a_leaf l ∷ xs) (one_drawn a) ys d = subst (λ (w : Ledger). Steps (a_leaf l ∷ xs) w ys d) drawn inner in
    step_then (IsNew a.log) a.first (step_made (IsNew a.log) a.first (a_leaf l) xs a.next a.left begun id) rest

drawn_onward : (a b d : Ledger) → b ≡ one_drawn a → IsOnward b d → IsOnward a d
drawn_onward a b d drawn onward = record {
  log = onward.log ∙ ap (λ (w : Ledger). w.log) drawn;
  first = onward.first ∙ ap (λ (w : Ledger). w.first) drawn;
}

-- ---- by a copy

module _ (pair : Pair) (rest : Bytes) (n m k : CellNode) (l : CellLeaf) (row : Option Fields) (a b d : Ledger) (is : k ≡ n) (begun : a.first ≤ a.next) (id : IsNextOf a l.cell) (drawn : b ≡ one_drawn a) (inner : (front : Bytes) → Steps (a_leaf l ∷ whole (led front k)) b (whole (led front m)) d) (few : d.next ≤ b.next + length rest + 2) (onward : IsOnward b d) where
  copied_steps : (front : Bytes) → Steps (whole (led front n)) a (whole (led front m)) d
  copied_steps front = leaf_made l (whole (led front n)) (whole (led front m)) a b d begun id drawn (subst (λ (z : CellNode). Steps (a_leaf l ∷ whole (led front z)) b (whole (led front m)) d) is (inner front))

  few_drawn : d.next ≤ a.next + length rest + 3
  few_drawn = let e = ap (λ (w : Ledger). w.next) drawn in omega (arith, few, e)

  pub put_copied : bare m ≡ over (bare n) (insert_below pair rest (below (bare n))) → row ≡ row_in (seek_plain rest (below (bare n))) → AllIn (outside_node Key rest k) (inside m) → b.next ≤ m.cell.id → IsPut pair rest n m row a d
  put_copied plain old stays fresh = record {
    plain = plain;
    old = old;
    steps = copied_steps;
    stays = subst (λ (z : CellNode). AllIn (outside_node Key rest z) (inside m)) is stays;
    low = (let e = ap (λ (w : Ledger). w.next) drawn in omega (arith, fresh, e, begun));
    few = few_drawn;
    onward = drawn_onward a b d drawn onward;
  }

  pub put_parted : None ≡ rest_past (bare n).prefix rest → bare m ≡ grown_node pair rest (bare n) → row ≡ None → AllIn (inside k) (inside m) → IsPutUnder pair rest n m row a d
  put_parted none plain old stays = record {
    plain = plain;
    old = old ∙ ap row_in (sym (apart_found rest (bare n) none));
    steps = copied_steps;
    stays = split_stays rest n m (subst (λ (z : CellNode). AllIn (inside z) (inside m)) is stays);
    few = few_drawn;
    onward = drawn_onward a b d drawn onward;
  }

-- ---- a leaf at a node that keeps its cell

module _ (pair : Pair) (n m : CellNode) (l : CellLeaf) (a : Ledger) (begun : a.first ≤ a.next) (own : a.first ≤ n.cell.id) (is : m ≡ (let w : CellNode = record { cell = n.cell; prefix = n.prefix; leaf = Some l; under = n.under } in w)) (is_pair : l.pair ≡ pair) where
  leaf_put : bare m ≡ over (bare n) (insert_below pair [] (below (bare n)))
  leaf_put = ap bare is ∙ (λ i. record { prefix = n.prefix; leaf = Some (is_pair i); under = plain_nodes n.under })

  low_kept : a.first ≤ m.cell.id
  low_kept = let e = ap (λ (w : CellNode). w.cell.id) is in omega (arith, own, e)

  -- a new leaf
  pub put_new_leaf : (row : Option Fields) (b d : Ledger) → row ≡ row_in (plain_leaf n.leaf) → IsNextOf a l.cell → b ≡ one_drawn a → d ≡ leaf_left n.leaf b → IsPut pair [] n m row a d
  put_new_leaf row b d old id drawn left = record {
    plain = leaf_put;
    old = old;
    steps = λ front. (
        let new : CellNode = record { cell = n.cell; prefix = n.prefix; leaf = Some l; under = n.under } in
        let c = one_drawn a in
        let end = leaf_left n.leaf c in
        let step : Steps (a_leaf l ∷ whole (led front n)) c (whole (led front new)) end =
        step_kept (IsNew a.log) a.first front n new (a_leaf l ∷ []) (a.next + 1) (a.next + 1) a.left (leave_leaf a.first n.leaf a.left) refl own (step_leaf (IsNew a.log) a.first l (a.next + 1) a.left (omega (arith, begun)) n.leaf n.under) in
        let same : d ≡ end = left ∙ ap (λ (w : Ledger). leaf_left n.leaf w) drawn in
        let all = leaf_made l (whole (led front n)) (whole (led front new)) a c end begun id refl step in
        subst (λ (w : CellNode). Steps (whole (led front n)) a (whole (led front w)) d) (sym is)
        (subst (λ (w : Ledger). Steps (whole (led front n)) a (whole (led front new)) w) (sym same) all)
        );
    stays = end_stays n m (ap (λ (w : CellNode). w.under) is);
    low = low_kept;
    few = (let e = ap (λ (w : Ledger). w.next) drawn in let f = ap (λ (w : Ledger). w.next) left in omega (arith, e, f));
    onward = record {
      log = ap (λ (w : Ledger). w.log) left ∙ ap (λ (w : Ledger). w.log) drawn;
      first = ap (λ (w : Ledger). w.first) left ∙ ap (λ (w : Ledger). w.first) drawn;
    };
  }

  -- the leaf that is there, with another row
  pub put_own_leaf : (k : CellLeaf) (old : Fields) → n.leaf ≡ Some k → a.first ≤ k.cell.id → l.cell ≡ k.cell → k.pair.1 ≡ old → IsPut pair [] n m (Some old) a a
  put_own_leaf k old there low same row = record {
    plain = leaf_put;
    old = ap Some (sym row) ∙ ap (λ (o : Option CellLeaf). row_in (plain_leaf o)) (sym there);
    steps = λ front. (
        let new : CellNode = record { cell = n.cell; prefix = n.prefix; leaf = Some l; under = n.under } in
        let one = step_in_place (IsNew a.log) a.first (a_leaf k) (a_leaf l) (node_pieces n.under) a.next a.left begun same low in
        let inner : IsStep (IsNew a.log) a.first (at (inside n) a.next a.left) (at (inside new) a.next a.left) =
        subst (λ (o : Option CellLeaf). IsStep (IsNew a.log) a.first (at (inside_of o n.under) a.next a.left) (at (inside new) a.next a.left)) (sym there) one in
        subst (λ (w : CellNode). Steps (whole (led front n)) a (whole (led front w)) a) (sym is)
        (step_kept (IsNew a.log) a.first front n new [] a.next a.next a.left a.left refl own inner)
        );
    stays = end_stays n m (ap (λ (w : CellNode). w.under) is);
    low = low_kept;
    few = omega arith;
    onward = record { log = refl; first = refl };
  }

-- ---- a change at an edge of a node that keeps its cell

pub kept_edge_step : (loose : List Piece) (n m e : CellNode) (start end : ℕ) (ks : List CellNode) (a b : Ledger) → (let es = cells_list n.under in es ≡ take start es ++ (ks ++ drop end es)) → Steps (loose ++ node_pieces (cells_in ks)) a (node_pieces (cells_in (e ∷ []))) b → (let es = cells_list n.under in m ≡ (let w : CellNode = record { cell = n.cell; prefix = n.prefix; leaf = n.leaf; under = cells_in (take start es ++ e ∷ drop end es) } in w)) → a.first ≤ n.cell.id → (front : Bytes) → Steps (loose ++ whole (led front n)) a (whole (led front m)) b
kept_edge_step loose n m e start end ks a b whole_is inner is own front =
    let es = cells_list n.under in
    let xs = take start es in
    let ys = drop end es in
    let new : CellNode = record { cell = n.cell; prefix = n.prefix; leaf = n.leaf; under = cells_in (xs ++ e ∷ ys) } in
    let old : inside_of n.leaf (cells_in (xs ++ (ks ++ ys))) ≡ inside n = ap (inside_of n.leaf) (ap cells_in (sym whole_is) ∙ cells_in_list n.under) in
    let middle = step_middle (IsNew a.log) a.first loose n.leaf xs ks (e ∷ []) ys a.next b.next a.left b.left inner in
    subst (λ (w : CellNode). Steps (loose ++ whole (led front n)) a (whole (led front w)) b) (sym is)
    (step_kept (IsNew a.log) a.first front n new loose a.next b.next a.left b.left refl own
    (subst (λ (zs : List Piece). IsStep (IsNew a.log) a.first (at (loose ++ zs) a.next a.left) (at (inside new) b.next b.left)) old middle))

module _ (pair : Pair) (x : ℕ) (after rest : Bytes) (is_rest : rest ≡ x ∷ after) (n m : CellNode) (place : ℕ) (a : Ledger) (own : a.first ≤ n.cell.id) where
  -- a new node at a new edge
  pub put_new_edge : (e : CellNode) (c : Cell) (l : CellLeaf) (b d : Ledger) → Err place ≡ place_of x (nodes_list (plain_nodes n.under)) → l.pair ≡ pair → a.first ≤ a.next → IsNextOf a l.cell → b ≡ one_drawn a → IsNextOf b c → e ≡ (let w : CellNode = record { cell = c; prefix = x ∷ after; leaf = Some l; under = no_cells } in w) → d ≡ one_drawn b → (let es = cells_list n.under in m ≡ (let w : CellNode = record { cell = n.cell; prefix = n.prefix; leaf = n.leaf; under = cells_in (take place es ++ e ∷ drop place es) } in w)) → IsPut pair rest n m None a d
  put_new_edge e c l b d gap is_pair begun id drawn next is_e after_edge is = record {
    plain =
        ap bare is ∙ (λ i. record { prefix = n.prefix; leaf = plain_leaf n.leaf; under = bare_spliced n.under place place e i })
        ∙ (λ i. record { prefix = n.prefix; leaf = plain_leaf n.leaf; under = nodes_in (take place (nodes_list (plain_nodes n.under)) ++ bare_e i ∷ drop place (nodes_list (plain_nodes n.under))) })
        ∙ insert_gap x after rest is_rest (bare n) (nodes_list (plain_nodes n.under)) (nodes_in_list (plain_nodes n.under)) pair place (leaf_node after pair) gap refl;
    old = ap row_in (sym (seek_gap x after rest is_rest (bare n) (nodes_list (plain_nodes n.under)) (nodes_in_list (plain_nodes n.under)) place gap));
    steps = λ front. leaf_made l (whole (led front n)) (whole (led front m)) a b d begun id drawn (gap_steps front);
    stays = gap_stays x after rest is_rest n m e n.cell place is;
    low = (let q = ap (λ (w : CellNode). w.cell.id) is in omega (arith, own, q));
    few = (let p = ap (λ (w : Ledger). w.next) drawn in let q = ap (λ (w : Ledger). w.next) after_edge in omega (arith, p, q));
    onward = record {
      log = ap (λ (w : Ledger). w.log) after_edge ∙ ap (λ (w : Ledger). w.log) drawn;
      first = ap (λ (w : Ledger). w.first) after_edge ∙ ap (λ (w : Ledger). w.first) drawn;
    };
  }
    where
      bare_e : bare e ≡ leaf_node (x ∷ after) pair
      bare_e = ap bare is_e ∙ (λ i. record { prefix = x ∷ after; leaf = Some (is_pair i); under = no_nodes })

      begun_b : b.first ≤ b.next
      begun_b = let p = ap (λ (w : Ledger). w.next) drawn in let q = ap (λ (w : Ledger). w.first) drawn in omega (arith, begun, p, q)

      own_b : b.first ≤ n.cell.id
      own_b = let q = ap (λ (w : Ledger). w.first) drawn in omega (arith, own, q)

      made : Steps (a_leaf l ∷ node_pieces (cells_in [])) b (node_pieces (cells_in (e ∷ []))) d
      made =
          subst (λ (w : Ledger). Steps (a_leaf l ∷ node_pieces (cells_in [])) b (node_pieces (cells_in (e ∷ []))) w) (sym after_edge)
          (step_new (IsNew b.log) b.first l b.next b.left begun_b e (subst (λ (w : CellNode). IsNextOf b w.cell) (sym is_e) next) (ap (λ (w : CellNode). w.leaf) is_e) (ap (λ (w : CellNode). w.under) is_e))

      gap_steps : (front : Bytes) → Steps (a_leaf l ∷ whole (led front n)) b (whole (led front m)) d
      gap_steps = kept_edge_step (a_leaf l ∷ []) n m e place place [] b d (at_gap place (cells_list n.under)) made is own_b

  -- the node at the edge is changed
  pub put_at_edge : (row : Option Fields) (d : Ledger) → Ok place ≡ place_of x (nodes_list (plain_nodes n.under)) → IsPutAt pair place after n m row a d → IsPut pair rest n m row a d
  put_at_edge row d found put = record {
    plain =
        ap bare is ∙ (λ i. record { prefix = n.prefix; leaf = plain_leaf n.leaf; under = bare_spliced n.under place (place + 1) (led (x ∷ []) put.grown) i })
        ∙ insert_onward x after rest is_rest (bare n) (nodes_list (plain_nodes n.under)) (nodes_in_list (plain_nodes n.under)) place found (bare put.child) plain_there pair (bare put.grown) put.put.plain;
    old = put.put.old ∙ ap row_in (sym (seeks x after rest is_rest (bare n) (nodes_list (plain_nodes n.under)) (nodes_in_list (plain_nodes n.under)) place found (bare put.child) plain_there));
    steps = kept_edge_step [] n m (led (x ∷ []) put.grown) place (place + 1) (led (x ∷ []) put.child ∷ []) a d (at_place place (cells_list n.under) (led (x ∷ []) put.child) there) inner is own;
    stays = edge_stays x after rest is_rest n m put.child put.grown place n.cell there is put.put.stays;
    low = (let q = ap (λ (w : CellNode). w.cell.id) put.node in omega (arith, own, q));
    few = (let p = put.put.few in let q = ap length is_rest in omega (arith, p, q));
    onward = put.put.onward;
  }
    where
      first_there : slice_get (nodes_list (plain_nodes n.under)) place ≡ Some (bare (led (put.label ∷ []) put.child))
      first_there = bare_there n.under place (led (put.label ∷ []) put.child) put.there

      label : put.label ≡ x
      label =
          let e : PlainEdge = record { label = put.label; node = bare put.child } in
          edge_label x (nodes_in (nodes_list (plain_nodes n.under))) e (edge_at_place x (nodes_in (nodes_list (plain_nodes n.under))) (nodes_list (plain_nodes n.under)) place _ refl first_there found)

      there : slice_get (cells_list n.under) place ≡ Some (led (x ∷ []) put.child)
      there = put.there ∙ (λ i. Some (led (label i ∷ []) put.child))

      is : let es = cells_list n.under in m ≡ (let w : CellNode = record { cell = n.cell; prefix = n.prefix; leaf = n.leaf; under = cells_in (take place es ++ led (x ∷ []) put.grown ∷ drop (place + 1) es) } in w)
      is = put.node ∙ (λ i. record { cell = n.cell; prefix = n.prefix; leaf = n.leaf; under = cells_in (take place (cells_list n.under) ++ led (label i ∷ []) put.grown ∷ drop (place + 1) (cells_list n.under)) })

      plain_there : slice_get (nodes_list (plain_nodes n.under)) place ≡ Some (bare (led (x ∷ []) put.child))
      plain_there = bare_there n.under place (led (x ∷ []) put.child) there

      inner : Steps (node_pieces (cells_in (led (x ∷ []) put.child ∷ []))) a (node_pieces (cells_in (led (x ∷ []) put.grown ∷ []))) d
      inner =
          subst (λ (zs : List Piece). Steps zs a (node_pieces (cells_in (led (x ∷ []) put.grown ∷ []))) d) (sym (pieces_one (led (x ∷ []) put.child)))
          (subst (λ (zs : List Piece). Steps (whole (led (x ∷ []) put.child)) a zs d) (sym (pieces_one (led (x ∷ []) put.grown))) (put.put.steps (x ∷ [])))

-- ---- past the node's prefix

pub put_onward : (pair : Pair) (rest left : Bytes) (n m : CellNode) (row : Option Fields) (a d : Ledger) → Some left ≡ rest_past (bare n).prefix rest → IsPut pair left n m row a d → IsPutUnder pair rest n m row a d
put_onward pair rest left n m row a d some put = record {
  plain = put.plain ∙ sym (left_grown rest left (bare n) some pair);
  old = put.old ∙ ap row_in (sym (left_found rest left (bare n) some));
  steps = put.steps;
  stays = onward_stays rest left n m some put.stays;
  few = (let p = put.few in let q = left_shorter 0 n.prefix (0 ∷ rest) rest left refl some in omega (arith, p, q));
  onward = put.onward;
}

-- ---- the node at an edge was lent

module _ (owner : Node) (es : Edges) (edge : Edge) (place : ℕ) (is : let n = cell_node owner in cells_in (cell_edges es) ≡ n.under) (there : slice_get (cell_edges es) place ≡ Some (led_node edge)) where
  pub lent_there : let n = cell_node owner in let e = cell_edge edge in slice_get (cells_list n.under) place ≡ Some (led (e.label ∷ []) e.node)
  lent_there = there_in es place (led_node edge) _ is there

  -- the node at the edge is a child
  pub lent_shaped : (let n = bare (cell_node owner) in IsShapedBelow n.under) → (k : CellNode) → k ≡ (cell_edge edge).node → IsShapedBelow (bare k).under
  lent_shaped s k same =
      let u = (cell_node owner).under in
      let child = child_at (plain_nodes u) (nodes_list (plain_nodes u)) place _ s (nodes_in_list (plain_nodes u)) (sym (bare_there u place _ lent_there)) in
      subst (λ (w : CellNode). IsShapedBelow (bare w).under) (sym same) child.under

  module _ (within : let n = cell_node owner in place < length (cells_list n.under)) (slot : NodeRef) where
    led_with : led_node (with_ref edge slot) ≡ led ((cell_edge edge).label ∷ []) (cell_ref slot)
    led_with = ap cell.led (cells_with_ref edge slot)

    pub lent_node : let n = cell_node owner in let e = cell_edge edge in let cs = cells_list n.under in cell_node (with_edges owner (with_edge es place (with_ref edge slot))) ≡ (let w : CellNode = record { cell = n.cell; prefix = n.prefix; leaf = n.leaf; under = cells_in (take place cs ++ led (e.label ∷ []) (cell_ref slot) ∷ drop (place + 1) cs) } in w)
    lent_node =
        let n = cell_node owner in
        let list = cells_list_of (cell_edges es) n.under is in
        let short : place < length (cell_edges es) = omega (arith, within, ap length list) in
        cells_with_edges owner (with_edge es place (with_ref edge slot))
        ∙ (λ i. record { cell = n.cell; prefix = n.prefix; leaf = n.leaf; under = cells_in (cells_with_edge es place (with_ref edge slot) short i) })
        ∙ (λ i. record { cell = n.cell; prefix = n.prefix; leaf = n.leaf; under = cells_in (take place (list i) ++ led_with i ∷ drop (place + 1) (list i)) })

    -- it is as it was
    pub lent_same : cell_ref slot ≡ (cell_edge edge).node → cell_node (with_edges owner (with_edge es place (with_ref edge slot))) ≡ cell_node owner
    lent_same same =
        let n = cell_node owner in
        let e = cell_edge edge in
        let cs = cells_list n.under in
        lent_node
        ∙ (λ i. record { cell = n.cell; prefix = n.prefix; leaf = n.leaf; under = cells_in (take place cs ++ led (e.label ∷ []) (same i) ∷ drop (place + 1) cs) })
        ∙ (λ i. record { cell = n.cell; prefix = n.prefix; leaf = n.leaf; under = (ap cells_in (sym (at_place place cs (led (e.label ∷ []) e.node) lent_there)) ∙ cells_in_list n.under) i })

    -- or is changed
    pub lent_put : (pair : Pair) (rest : Bytes) (k : CellNode) (row : Option Fields) (a d : Ledger) → k ≡ (cell_edge edge).node → IsPutUnder pair rest k (cell_ref slot) row a d → IsPutAt pair place rest (cell_node owner) (cell_node (with_edges owner (with_edge es place (with_ref edge slot)))) row a d
    lent_put pair rest k row a d same put = record {
      label = (cell_edge edge).label;
      child = k;
      grown = cell_ref slot;
      there = lent_there ∙ (λ i. Some (led ((cell_edge edge).label ∷ []) (sym same i)));
      node = lent_node;
      put = put;
    }
