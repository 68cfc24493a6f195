-- A delete in place is steps over pieces, and what a delete is.
use Rattle.std.proofs.Common.{◌≡◌, ◌+◌, ◌<◌, ◌≤◌, ◌++◌, ◌∷◌, ◌∙◌, ℕ, suc, List, [], length, take, drop, Option, Some, None, option_map, refl, sym, ap, subst, arith, length-append}
use Rattle.std.proofs.lemmas.List.{append-nil}
use Rattle.std.specs.List.{slice_get}
use Rattle.mdb_datum.specs.Bytes.{Bytes}
use Rattle.mdb_datum.specs.Row.{Fields, Pair}
use Rattle.radix_node.specs.Cells.{CellLeaf, CellNode, CellNodes, no_cells, celled, Piece, cells_in, node_pieces, plain_leaf, plain_nodes}
use Rattle.radix_node.specs.CellNode.{cell_node}
use Rattle.radix_node.specs.Node.{PlainNode, below, nodes_in, plain_node}
use Rattle.radix_node.specs.declared.node.Node.{Node}
use Rattle.radix_node.proofs.CellLevels.{bare_node}
use Rattle.radix_node.specs.Nodes.{Nodes, no_nodes, node, Plain, pairs_of}
use Rattle.radix_node.specs.Shape.{IsBranching, width}
use Rattle.radix_node.specs.Siblings.{bare, cells_list, nodes_list}
use Rattle.radix_node.proofs.LookupSteps.{led as plain_led, left_shorter}
use Rattle.radix_txn.specs.declared.remove.Removed.{Removed}
use Rattle.radix_txn.specs.declared.target.Target.{Target}
use Rattle.radix_txn.specs.inner.Below.{IsShapedBelow, settled_node}
use Rattle.radix_txn.specs.inner.Gone.{HasNone, IsCutUnder, IsLeft, IsStanding, IsVoid, LeadsOn}
use Rattle.radix_txn.specs.inner.Outside.{AllIn, outside_node}
use Rattle.radix_txn.specs.inner.Pieces.{led, inside, whole}
use Rattle.radix_txn.specs.inner.Removal.{IsRemoval, LosesPairs}
use Rattle.radix_txn.specs.inner.Remains.{own_leaf, own_nodes, pieces_left, remains_of, stays_left}
use Rattle.radix_txn.specs.inner.Steps.{IsNew, IsOnward, Ledger, Steps, one_left}
use Rattle.radix_txn.proofs.CellEdits.{pieces_one}
use Rattle.radix_txn.proofs.CellInserts.{at_place, cells_list_in}
use Rattle.radix_txn.proofs.CellRemains.{above_step}
use Rattle.radix_txn.proofs.ChildShape.{IsChild, child_at}
use Rattle.radix_txn.proofs.EditStays.{above_stays}
use Rattle.radix_txn.proofs.InsertSteps.{tree_of, with_at}
use Rattle.radix_txn.proofs.Outside.{all_in_is, all_in_then, below_inside}
use Rattle.radix_txn.proofs.PutSteps.{bare_length, bare_spliced, bare_there, kept_edge_step, nodes_in_list}
use Rattle.radix_txn.proofs.RemoveSteps.{fewer, onward_loses, onward_missing, onward_removal, removal_loses}
use Rattle.radix_txn.proofs.SettledNode.{branching_like, settled_branching}
use Rattle.radix_txn.proofs.Steps.{at, step_origin, step_then}

-- how many edges there are
pub width_list : (u : CellNodes) → width (plain_nodes u) ≡ length (cells_list u)
width_list no_cells = refl
width_list (celled cell prefix leaf under later) = ap suc (width_list later)

-- a byte in front of its prefix
settled_led : (x : ℕ) (p : List ℕ) (leaf : Option Pair) (under : Nodes) → settled_node (x ∷ p) leaf under ≡ option_map (plain_led x) (settled_node p leaf under)
settled_led x p (Some pair) under = refl
settled_led x p None no_nodes = refl
settled_led x p None (node q leaf under no_nodes) = refl
settled_led x p None (node q leaf under (node r leaf_2 under_2 rest)) = refl

settled_under : (x : ℕ) (p : List ℕ) (leaf : Option Pair) (under : Nodes) (o : Option PlainNode) → settled_node p leaf under ≡ o → settled_node (x ∷ p) leaf under ≡ option_map (plain_led x) o
settled_under x p leaf under o e = settled_led x p leaf under ∙ ap (option_map (plain_led x)) e

-- the same of a node that is as it was
pub left_as : (target : Target) (rest : Bytes) (n m k : CellNode) (r : Removed) (a b : Ledger) → n ≡ k → IsLeft target rest n m r a b → IsLeft target rest k k r a b
left_as target rest n m k r a b e h =
    subst (λ (v : CellNode). IsLeft target rest v v r a b) e (record {
      same = refl;
      removal = h.removal;
      steps = h.steps;
      stays = h.stays;
      few = h.few;
      onward = h.onward;
    })

-- an edge of a node in memory that is as it was
pub lost_edge : (place : ℕ) (owner : Node) (n : CellNode) → cell_node owner ≡ n → place < length (cells_list n.under) → let m = plain_node owner in place < length (nodes_list m.under)
lost_edge place owner n same within =
    let plain : nodes_list (plain_node owner).under ≡ nodes_list (plain_nodes n.under) = ap (λ (p : PlainNode). nodes_list p.under) (sym (bare_node owner) ∙ ap bare same) in
    omega (arith, within, bare_length n.under, ap length plain)

module _ (target : Target) (place : ℕ) (left rest : Bytes) (n : CellNode) (w : LeadsOn place left rest n) where
  abbrev edges : List PlainNode
  edges = nodes_list (plain_nodes n.under)

  is : nodes_in edges ≡ plain_nodes n.under
  is = nodes_in_list (plain_nodes n.under)

  plain_there : slice_get edges place ≡ Some (bare (led (w.label ∷ []) w.child))
  plain_there = bare_there n.under place (led (w.label ∷ []) w.child) w.there

  pub rest_shorter : length left < length rest
  rest_shorter = left_shorter w.label (let k = w.child in k.prefix) rest w.after left w.first w.past

  pub child_fewer : length (pairs_of (below (bare w.child))) ≤ length (pairs_of (below (bare n)))
  child_fewer = fewer w.label w.after rest w.first (bare n) edges is place w.place (bare w.child) plain_there

  pub child_is : IsShapedBelow (bare n).under → IsChild (bare (led (w.label ∷ []) w.child))
  child_is shape = child_at (plain_nodes n.under) edges place _ shape is (sym plain_there)

  pub child_loses : LosesPairs target left (below (bare w.child)) → LosesPairs target rest (below (bare n))
  child_loses lost = onward_loses w.label w.after rest w.first (bare n) edges is place w.place (bare w.child) plain_there left w.past target lost

  -- there is no such key
  pub none_onward : (k m : CellNode) (a b : Ledger) → HasNone target left w.child k a b → m ≡ n → HasNone target rest n m a b
  none_onward k m a b h same = record {
    missing = onward_missing w.label w.after rest w.first (bare n) edges is place w.place (bare w.child) plain_there left w.past target h.missing;
    same = same;
    still = h.still;
  }

  removed_onward : (b t : Plain) (row : Option Fields) (count : ℕ) → IsRemoval target left (below (bare w.child)) b row count → t ≡ tree_of (bare n).leaf (with_at place (settled_node (w.label ∷ (let k = w.child in k.prefix)) b.leaf b.nodes) edges) → IsRemoval target rest (below (bare n)) t row count
  removed_onward b t row count h e = onward_removal w.label w.after rest w.first (bare n) edges is place w.place (bare w.child) plain_there left w.past target b t row count h e

  whole_is : (let es = cells_list n.under in es ≡ take place es ++ led (w.label ∷ []) w.child ∷ drop (place + 1) es)
  whole_is = at_place place (cells_list n.under) (led (w.label ∷ []) w.child) w.there

  -- another node comes at the edge of a node that keeps its cell
  module _ (grown m : CellNode) (row : Option Fields) (count : ℕ) (old b : Ledger) (t : Plain) (new_is : let es = cells_list n.under in m ≡ (let v : CellNode = record { cell = n.cell; prefix = n.prefix; leaf = n.leaf; under = cells_in (take place es ++ led (w.label ∷ []) grown ∷ drop (place + 1) es) } in v)) (own : old.first ≤ n.cell.id) (removal : IsRemoval target left (below (bare w.child)) t row count) (settled : settled_node (w.label ∷ (let k = w.child in k.prefix)) t.leaf t.nodes ≡ Some (bare (led (w.label ∷ []) grown))) (steps : (front : Bytes) → Steps (whole (led front w.child)) old (whole (led front grown)) b) (stays : AllIn (outside_node target left w.child) (inside grown)) (few : b.next ≤ old.next + length rest) (onward : IsOnward old b) where
    plain_is : below (bare m) ≡ tree_of (bare n).leaf (with_at place (settled_node (w.label ∷ (let k = w.child in k.prefix)) t.leaf t.nodes) edges)
    plain_is =
        ap (λ (v : CellNode). below (bare v)) new_is
        ∙ ap (tree_of (plain_leaf n.leaf)) (bare_spliced n.under place (place + 1) (led (w.label ∷ []) grown))
        ∙ ap (λ (o : Option PlainNode). tree_of (plain_leaf n.leaf) (with_at place o edges)) (sym settled)

    inner : Steps (node_pieces (cells_in (led (w.label ∷ []) w.child ∷ []))) old (node_pieces (cells_in (led (w.label ∷ []) grown ∷ []))) b
    inner =
        subst (λ (zs : List Piece). Steps zs old (node_pieces (cells_in (led (w.label ∷ []) grown ∷ []))) b) (sym (pieces_one (led (w.label ∷ []) w.child)))
        (subst (λ (zs : List Piece). Steps (whole (led (w.label ∷ []) w.child)) old zs b) (sym (pieces_one (led (w.label ∷ []) grown))) (steps (w.label ∷ [])))

    new_leaf : m.leaf ≡ n.leaf
    new_leaf = ap (λ (v : CellNode). v.leaf) new_is

    new_under : (let es = cells_list n.under in m.under ≡ cells_in (take place es ++ led (w.label ∷ []) grown ∷ drop (place + 1) es))
    new_under = ap (λ (v : CellNode). v.under) new_is

    new_width : length (cells_list m.under) ≡ length (cells_list n.under)
    new_width =
        let es = cells_list n.under in
        let e = ap (λ (u : CellNodes). length (cells_list u)) new_under in
        let f = ap length (cells_list_in (take place es ++ led (w.label ∷ []) grown ∷ drop (place + 1) es)) in
        let g = ap length whole_is in
        let p = length-append (take place es) (led (w.label ∷ []) grown ∷ drop (place + 1) es) in
        let q = length-append (take place es) (led (w.label ∷ []) w.child ∷ drop (place + 1) es) in
        omega (arith, e, f, g, p, q)

    pub cut_at_edge : IsCutUnder target rest n m row count old b
    cut_at_edge = record {
      cut = record {
        removal = removed_onward t (below (bare m)) row count removal plain_is;
        prefix = ap (λ (v : CellNode). v.prefix) new_is;
        steps = kept_edge_step [] n m (led (w.label ∷ []) grown) place (place + 1) (led (w.label ∷ []) w.child ∷ []) old b whole_is inner new_is own;
        stays = all_in_then _ _ _ (above_stays target w.label w.after rest w.first n w.child place w.there m.leaf m.under new_leaf left w.past (led (w.label ∷ []) grown ∷ []) new_under (all_in_then _ _ _ stays (all_in_is _ _ (sym (append-nil (inside grown)))))) (below_inside m.leaf m.under);
        low = (let e = ap (λ (v : CellNode). v.cell.id) new_is in omega (arith, own, e));
        few = omega (arith, few);
        onward = onward;
      };
      leaf = new_leaf;
      width = new_width;
      few = few;
    }

  -- the node there is changed under one of its edges
  pub kept_onward : IsShapedBelow (bare n).under → (grown m : CellNode) (row : Option Fields) (count : ℕ) (a b : Ledger) → (let es = cells_list n.under in m ≡ (let v : CellNode = record { cell = n.cell; prefix = n.prefix; leaf = n.leaf; under = cells_in (take place es ++ led (w.label ∷ []) grown ∷ drop (place + 1) es) } in v)) → a.first ≤ n.cell.id → IsCutUnder target left w.child grown row count a b → IsCutUnder target rest n m row count a b
  kept_onward shape grown m row count a b new_is own h =
      cut_at_edge grown m row count a b (below (bare grown)) new_is own h.cut.removal stands h.cut.steps h.cut.stays (let few = h.few in omega (arith, few, rest_shorter)) h.cut.onward
    where
      branches : IsBranching (plain_leaf grown.leaf) (plain_nodes grown.under)
      branches =
          let both : width (plain_nodes grown.under) ≡ width (plain_nodes w.child.under) = width_list grown.under ∙ h.width ∙ sym (width_list w.child.under) in
          branching_like (plain_leaf grown.leaf) (plain_nodes w.child.under) (plain_nodes grown.under) both
          (subst (λ (o : Option CellLeaf). IsBranching (plain_leaf o) (plain_nodes w.child.under)) (sym h.leaf) (child_is shape).branching)

      stands : settled_node (w.label ∷ (let k = w.child in k.prefix)) (bare grown).leaf (bare grown).under ≡ Some (bare (led (w.label ∷ []) grown))
      stands =
          settled_branching (w.label ∷ (let k = w.child in k.prefix)) (plain_leaf grown.leaf) (plain_nodes grown.under) branches
          ∙ (λ i. Some (let p : PlainNode = record { prefix = w.label ∷ (sym h.cut.prefix) i; leaf = plain_leaf grown.leaf; under = plain_nodes grown.under } in p))

  -- it is left with something, or nothing, by what is settled
  module _ (below_it : Removed) (old a : Ledger) (h : IsLeft target left w.child w.child below_it old a) where
    pub left_loses : LosesPairs target rest (below (bare n))
    left_loses = removal_loses w.label w.after rest w.first (bare n) edges is place w.place (bare w.child) plain_there left w.past target _ _ _ h.removal

    module _ (b : Ledger) (few : b.next ≤ a.next + 1) where
      few_both : b.next ≤ old.next + length rest
      few_both = let p = h.few in omega (arith, p, few, rest_shorter)

      onward_both : IsOnward a b → IsOnward old b
      onward_both more = let first = h.onward in record { log = more.log ∙ first.log; first = more.first ∙ first.first }

    pub standing_onward : (grown m : CellNode) (b : Ledger) → (let es = cells_list n.under in m ≡ (let v : CellNode = record { cell = n.cell; prefix = n.prefix; leaf = n.leaf; under = cells_in (take place es ++ led (w.label ∷ []) grown ∷ drop (place + 1) es) } in v)) → old.first ≤ n.cell.id → IsStanding w.child grown below_it.remains a b → IsCutUnder target rest n m below_it.row below_it.count old b
    standing_onward grown m b new_is own s =
        cut_at_edge grown m below_it.row below_it.count old b (remains_of below_it.remains) new_is own h.removal (settled_under w.label _ _ _ _ s.plain)
        (λ front. step_then (IsNew old.log) old.first (h.steps front) (step_origin old a h.onward (at (pieces_left below_it.remains) a.next a.left) (at (whole (led front grown)) b.next b.left) (s.steps front)))
        (all_in_then _ _ _ h.stays s.stays) (few_both b s.few) (onward_both b s.few s.onward)

    pub void_onward : (k m : CellNode) (r : Removed) (b d : Ledger) → m ≡ n → IsVoid w.child k below_it.remains a b → r.row ≡ below_it.row → r.count ≡ below_it.count → remains_of r.remains ≡ tree_of (bare n).leaf (nodes_in (take place edges ++ drop (place + 1) edges)) → own_leaf r.remains ≡ n.leaf → (let es = cells_list n.under in own_nodes r.remains ≡ cells_in (take place es ++ drop (place + 1) es)) → d ≡ one_left n.cell b → IsLeft target rest n m r old d
    void_onward k m r b d same v row count tree leaf nodes after = record {
      same = same;
      removal =
          subst (λ (o : Option Fields). IsRemoval target rest (below (bare n)) (remains_of r.remains) o r.count) (sym row)
          (subst (λ c. IsRemoval target rest (below (bare n)) (remains_of r.remains) below_it.row c) (sym count)
          (removed_onward (remains_of below_it.remains) (remains_of r.remains) below_it.row below_it.count h.removal (tree ∙ ap (λ (o : Option PlainNode). tree_of (bare n).leaf (with_at place o edges)) (sym led_none))));
      steps = above_step n place (led (w.label ∷ []) w.child) w.there [] (own_leaf r.remains) (own_nodes r.remains) (pieces_left below_it.remains) old a b d leaf nodes (h.steps (w.label ∷ [])) v.steps h.onward v.onward after;
      stays = above_stays target w.label w.after rest w.first n w.child place w.there (own_leaf r.remains) (own_nodes r.remains) leaf left w.past [] nodes (all_in_then (outside_node target left w.child) (stays_left below_it.remains) [] h.stays v.stays);
      few = (let p = few_both b v.few in let e = ap (λ (l : Ledger). l.next) after in omega (arith, p, e));
      onward = (let both = onward_both b v.few v.onward in record { log = ap (λ (l : Ledger). l.log) after ∙ both.log; first = ap (λ (l : Ledger). l.first) after ∙ both.first });
    }
      where
        led_none : settled_node (w.label ∷ (let c = w.child in c.prefix)) (remains_of below_it.remains).leaf (remains_of below_it.remains).nodes ≡ None
        led_none = settled_under w.label _ _ _ _ v.plain
