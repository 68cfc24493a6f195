-- What a delete leaves, as it is made node by node, is steps over pieces.
use Rattle.std.proofs.Common.{◌≡◌, ◌+◌, ◌≤◌, ◌++◌, ◌∷◌, ◌∙◌, ℕ, List, [], length, take, drop, Option, Some, None, refl, sym, ap, subst, arith}
use Rattle.std.proofs.lemmas.List.{length-map}
use Rattle.std.specs.List.{slice_get}
use Rattle.mdb_datum.specs.Bytes.{Bytes}
use Rattle.watch_word.specs.Logs.{Cell}
use Rattle.radix_node.specs.CellNode.{cell_edges}
use Rattle.radix_node.specs.Node.{edges_of}
use Rattle.radix_node.specs.declared.edges.Edges.{Edges}
use Rattle.radix_node.proofs.CellLevels.{bare_edges}
use Rattle.radix_node.specs.Cells.{CellLeaf, CellNode, CellNodes, no_cells, Piece, a_node, node_pieces, cells_in}
use Rattle.radix_node.specs.Left.{all_cells, leave, leave_all}
use Rattle.radix_node.specs.Siblings.{bare, cells_list}
use Rattle.radix_txn.specs.inner.Pieces.{led, inside_of, inside, whole}
use Rattle.radix_txn.specs.inner.Steps.{IsStep, Ledger, IsOnward, Steps, many_left, IsNew, IsNextOf, one_drawn, one_left}
use Rattle.radix_txn.proofs.CellEdits.{pieces_one, step_middle, step_unmade, step_without_leaf, step_settled, step_nothing}
use Rattle.radix_txn.proofs.CellInserts.{at_place, cells_in_list}
use Rattle.radix_txn.proofs.Steps.{at, step_origin, step_then, step_made, step_gone, step_all_gone}

-- ---- what is left stands as a node again

pub kept_step : (leaf : Option CellLeaf) (under : CellNodes) (prefix : Bytes) (r : CellNode) (c : Cell) (a d : Ledger) → a.first ≤ a.next → IsNextOf a c → r ≡ (let w : CellNode = record { cell = c; prefix = prefix; leaf = leaf; under = under } in w) → d ≡ one_drawn a → (front : Bytes) → Steps (inside_of leaf under) a (node_pieces (cells_in (led front r ∷ []))) d
kept_step leaf under prefix r c a d begun id is after front =
    subst (λ (w : Ledger). Steps (inside_of leaf under) a (node_pieces (cells_in (led front r ∷ []))) w) (sym after)
    (step_settled (IsNew a.log) a.first (led front r) leaf under a.next a.left begun (subst (λ (n : CellNode). IsNextOf a n.cell) (sym is) id) (ap (λ (n : CellNode). n.leaf) is) (ap (λ (n : CellNode). n.under) is))

pub merged_step : (k r : CellNode) (a d : Ledger) → a.first ≤ a.next → IsNextOf a r.cell → inside r ≡ inside k → d ≡ one_left k.cell (one_drawn a) → (front : Bytes) → Steps (whole k) a (node_pieces (cells_in (led front r ∷ []))) d
merged_step k r a d begun id same after front =
    let gone = step_gone (IsNew a.log) a.first (a_node k) (inside k) a.next a.left begun in
    let made = step_made (IsNew a.log) a.first (a_node (led front r)) (inside k) a.next (leave a.first k.cell a.left) begun id in
    let to : a_node (led front r) ∷ inside k ≡ node_pieces (cells_in (led front r ∷ [])) = ap (λ (zs : List Piece). a_node (led front r) ∷ zs) (sym same) ∙ sym (pieces_one (led front r)) in
    subst (λ (w : Ledger). Steps (whole k) a (node_pieces (cells_in (led front r ∷ []))) w) (sym after)
    (subst (λ (zs : List Piece). IsStep (IsNew a.log) a.first (at (whole k) a.next a.left) (at zs (a.next + 1) (leave a.first k.cell a.left))) to (step_then (IsNew a.log) a.first gone made))

-- ---- the node itself goes

-- after a change of what is inside
pub unmade_step : (n : CellNode) (new : List Piece) (a b d : Ledger) → Steps (inside n) a new b → IsOnward a b → d ≡ one_left n.cell b → (front : Bytes) → Steps (whole (led front n)) a new d
unmade_step n new a b d s onward after front =
    let step = step_unmade (IsNew a.log) a.first front n [] new a.next b.next a.left b.left s in
    subst (λ (w : Ledger). Steps (whole (led front n)) a new w) (sym after)
    (subst (λ f. IsStep (IsNew a.log) a.first (at (whole (led front n)) a.next a.left) (at new b.next (leave f n.cell b.left))) (sym onward.first) step)

-- its leaf goes
pub leafless_step : (n : CellNode) (l : CellLeaf) (leaf : Option CellLeaf) (under : CellNodes) (a d : Ledger) → a.first ≤ a.next → n.leaf ≡ Some l → leaf ≡ None → under ≡ n.under → d ≡ one_left n.cell (one_left l.cell a) → (front : Bytes) → Steps (whole (led front n)) a (inside_of leaf under) d
leafless_step n l leaf under a d begun is none same after front =
    let step = step_without_leaf (IsNew a.log) a.first l n.leaf n.under a.next a.left begun is in
    let to : inside_of None n.under ≡ inside_of leaf under = λ i. inside_of (sym none i) (sym same i) in
    unmade_step n (inside_of leaf under) a (one_left l.cell a) d
    (subst (λ (zs : List Piece). IsStep (IsNew a.log) a.first (at (inside n) a.next a.left) (at zs a.next (leave a.first l.cell a.left))) to step)
    (record { log = refl; first = refl }) after front

-- all under it goes too
pub all_step : (n : CellNode) (leaf : Option CellLeaf) (under : CellNodes) (a d : Ledger) → a.first ≤ a.next → leaf ≡ None → under ≡ no_cells → d ≡ many_left (all_cells n) a → (front : Bytes) → Steps (whole (led front n)) a (inside_of leaf under) d
all_step n leaf under a d begun none empty after front =
    let step = step_all_gone (IsNew a.log) a.first (whole (led front n)) a.next a.left begun in
    let to : (let nothing : List Piece = [] in nothing) ≡ inside_of leaf under = λ i. inside_of (sym none i) (sym empty i) in
    subst (λ (w : Ledger). Steps (whole (led front n)) a (inside_of leaf under) w) (sym after)
    (subst (λ (zs : List Piece). IsStep (IsNew a.log) a.first (at (whole (led front n)) a.next a.left) (at zs a.next (leave_all a.first (all_cells n) a.left))) to step)

-- ---- at an edge

module _ (n : CellNode) (at_edge : ℕ) (k : CellNode) (there : slice_get (cells_list n.under) at_edge ≡ Some k) where
  abbrev before : List CellNode
  before = take at_edge (cells_list n.under)

  abbrev behind : List CellNode
  behind = drop (at_edge + 1) (cells_list n.under)

  under_is : inside_of n.leaf (cells_in (before ++ (k ∷ [] ++ behind))) ≡ inside n
  under_is = ap (inside_of n.leaf) (ap cells_in (sym (at_place at_edge (cells_list n.under) k there)) ∙ cells_in_list n.under)

  -- the node there is replaced by others
  pub above_step : (ns : List CellNode) (leaf : Option CellLeaf) (under : CellNodes) (below : List Piece) (old a b d : Ledger) → leaf ≡ n.leaf → under ≡ cells_in (before ++ (ns ++ behind)) → Steps (whole k) old below a → Steps below a (node_pieces (cells_in ns)) b → IsOnward old a → IsOnward a b → d ≡ one_left n.cell b → (front : Bytes) → Steps (whole (led front n)) old (inside_of leaf under) d
  above_step ns leaf under below old a b d same is first second onward more after front =
      let both : Steps (whole k) old (node_pieces (cells_in ns)) b = step_then (IsNew old.log) old.first first (step_origin old a onward (at below a.next a.left) (at (node_pieces (cells_in ns)) b.next b.left) second) in
      let step : IsStep (IsNew old.log) old.first (at (node_pieces (cells_in (k ∷ []))) old.next old.left) (at (node_pieces (cells_in ns)) b.next b.left) =
      subst (λ (zs : List Piece). IsStep (IsNew old.log) old.first (at zs old.next old.left) (at (node_pieces (cells_in ns)) b.next b.left)) (sym (pieces_one k)) both in
      let middle = step_middle (IsNew old.log) old.first [] n.leaf before (k ∷ []) ns behind old.next b.next old.left b.left step in
      let to : inside_of n.leaf (cells_in (before ++ (ns ++ behind))) ≡ inside_of leaf under = λ i. inside_of (sym same i) (sym is i) in
      unmade_step n (inside_of leaf under) old b d
      (subst (λ (zs : List Piece). IsStep (IsNew old.log) old.first (at zs old.next old.left) (at (inside_of leaf under) b.next b.left)) under_is
      (subst (λ (zs : List Piece). IsStep (IsNew old.log) old.first (at (inside_of n.leaf (cells_in (before ++ (k ∷ [] ++ behind)))) old.next old.left) (at zs b.next b.left)) to middle))
      (record { log = more.log ∙ onward.log; first = more.first ∙ onward.first }) after front

  -- it goes with all under it
  pub without_step : (leaf : Option CellLeaf) (under : CellNodes) (a b d : Ledger) → a.first ≤ a.next → leaf ≡ n.leaf → under ≡ cells_in (before ++ behind) → b ≡ many_left (all_cells k) a → d ≡ one_left n.cell b → (front : Bytes) → Steps (whole (led front n)) a (inside_of leaf under) d
  without_step leaf under a b d begun same is left after front =
      let gone : Steps (whole k) a [] b = subst (λ (w : Ledger). Steps (whole k) a [] w) (sym left) (step_all_gone (IsNew a.log) a.first (whole k) a.next a.left begun) in
      let step : IsStep (IsNew a.log) a.first (at (node_pieces (cells_in (k ∷ []))) a.next a.left) (at [] b.next b.left) =
      subst (λ (zs : List Piece). IsStep (IsNew a.log) a.first (at zs a.next a.left) (at [] b.next b.left)) (sym (pieces_one k)) gone in
      let middle = step_middle (IsNew a.log) a.first [] n.leaf before (k ∷ []) [] behind a.next b.next a.left b.left step in
      let to : inside_of n.leaf (cells_in (before ++ behind)) ≡ inside_of leaf under = λ i. inside_of (sym same i) (sym is i) in
      unmade_step n (inside_of leaf under) a b d
      (subst (λ (zs : List Piece). IsStep (IsNew a.log) a.first (at zs a.next a.left) (at (inside_of leaf under) b.next b.left)) under_is
      (subst (λ (zs : List Piece). IsStep (IsNew a.log) a.first (at (inside_of n.leaf (cells_in (before ++ (k ∷ [] ++ behind)))) a.next a.left) (at zs b.next b.left)) to middle))
      (record { log = ap (λ (w : Ledger). w.log) left; first = ap (λ (w : Ledger). w.first) left }) after front

-- ---- what is left is nothing, or one node

pub no_first : (es : List CellNode) → None ≡ slice_get es 0 → cells_in es ≡ no_cells
no_first [] e = refl
no_first (n ∷ es) e = cc

pub one_only : (es : List CellNode) (n : CellNode) → length es ≤ 1 → Some n ≡ slice_get es 0 → es ≡ n ∷ []
one_only [] n le e = cc
one_only (m ∷ []) n le e = let same : m ≡ n = cc in ap (λ (k : CellNode). k ∷ []) same
one_only (m ∷ o ∷ es) n le e = absurd (omega arith)

pub nothing_step : (leaf : Option CellLeaf) (es : List CellNode) (a : Ledger) → a.first ≤ a.next → leaf ≡ None → None ≡ slice_get es 0 → Steps (inside_of leaf (cells_in es)) a (node_pieces (cells_in [])) a
nothing_step leaf es a begun none empty = step_nothing (IsNew a.log) a.first leaf (cells_in es) a.next a.left begun none (no_first es empty)

pub only_step : (leaf : Option CellLeaf) (es : List CellNode) (k : CellNode) (new : List Piece) (a d : Ledger) → leaf ≡ None → length es ≤ 1 → Some k ≡ slice_get es 0 → Steps (whole k) a new d → Steps (inside_of leaf (cells_in es)) a new d
only_step leaf es k new a d none few there s =
    let to : whole k ≡ inside_of leaf (cells_in es) = sym ((λ i. inside_of (none i) (cells_in (one_only es k few there i))) ∙ pieces_one k) in
    subst (λ (zs : List Piece). Steps zs a new d) to s

pub same_length : (e : Edges) → length (cell_edges e) ≡ length (edges_of e)
same_length e = sym (length-map (cell_edges e) bare) ∙ ap length (bare_edges e)
