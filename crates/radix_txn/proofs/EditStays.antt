-- What stays where it is in each kind of edit, as it is made node by node.
use Rattle.std.proofs.Common.{◌≡◌, ◌≢◌, inl, inr, ◌++◌, ◌∷◌, ◌∙◌, ◌+◌, ◌≤◌, ℕ, true, List, [], length, take, drop, Option, Some, None, refl, sym, ap, subst, append_assoc, Less, Equal, Greater}
use Rattle.std.proofs.lemmas.Bool.{false≢true}
use Rattle.std.proofs.lemmas.List.{append-nil}
use Rattle.std.specs.FinMap.Entries as entries
use Rattle.std.specs.List.{slice_get}
use Rattle.mdb_datum.specs.Bytes.{Bytes}
use Rattle.watch_word.specs.Logs.{Cell}
use Rattle.radix_node.specs.CellNode.{cell_put, tree_at}
use Rattle.radix_node.specs.Cells.{CellLeaf, CellNode, CellNodes, CellTree, Piece, leaf_pieces, node_pieces, cells_in, pieces_of, root_of}
use Rattle.radix_node.specs.Node.{rest_past}
use Rattle.radix_node.specs.Nodes.{first_order, part}
use Rattle.radix_node.specs.Paths.{Has}
use Rattle.radix_node.specs.Siblings.{cells_list}
use Rattle.radix_node.proofs.Paths.{Has-left, Has-right}
use Rattle.radix_txn.specs.declared.target.Target.{Target}
use Rattle.radix_txn.specs.declared.target.Target.TheVariants.{Key, Prefix}
use Rattle.radix_txn.specs.inner.Outside.{AllIn, below_pieces, inner_pieces, outside, outside_node, staying}
use Rattle.radix_txn.specs.inner.Pieces.{led, inside, inside_of}
use Rattle.radix_txn.specs.inner.Removal.{covers}
use Rattle.radix_txn.proofs.CellInserts.{at_gap, at_place}
use Rattle.radix_txn.proofs.CellRemains.{no_first, one_only}
use Rattle.radix_txn.proofs.Outside.{all_in_is, all_in_then, below_inside, edge_past, inner_split, outside_edge, outside_inner, staying_in, stays_beside}
use Rattle.radix_txn.proofs.PairCounts.{ended}
use Rattle.radix_txn.proofs.Split.{past_none, past_some}

-- ---- at the end of a key

pub end_stays : (n m : CellNode) → m.under ≡ n.under → AllIn (outside_node Key [] n) (inside m)
end_stays n m same x h =
    below_inside m.leaf m.under x (Has-right x (leaf_pieces m.leaf) (inner_pieces m.under) (subst (λ (u : CellNodes). Has x (inner_pieces u)) (sym same) (outside_inner Key [] n.under x h)))

-- the edges are left, without a leaf
pub leafless_stays : (n : CellNode) (leaf : Option CellLeaf) (under : CellNodes) → under ≡ n.under → AllIn (outside_node Key [] n) (below_pieces leaf under)
leafless_stays n leaf under same x h =
    Has-right x (leaf_pieces leaf) (inner_pieces under) (subst (λ (u : CellNodes). Has x (inner_pieces u)) (sym same) (outside_inner Key [] n.under x h))

-- ---- other nodes in the place of some

-- what is beside them and within the new ones is below the node
beside_is : (leaf : Option CellLeaf) (xs js ys : List CellNode) → leaf_pieces leaf ++ (inner_pieces (cells_in xs) ++ (inner_pieces (cells_in js) ++ inner_pieces (cells_in ys))) ≡ below_pieces leaf (cells_in (xs ++ (js ++ ys)))
beside_is leaf xs js ys =
    ap (λ (zs : List Piece). leaf_pieces leaf ++ zs) (sym (inner_split xs (js ++ ys) ∙ ap (λ (zs : List Piece). inner_pieces (cells_in xs) ++ zs) (inner_split js ys)))

module _ (target : Target) (x : ℕ) (k rest : Bytes) (first : rest ≡ x ∷ k) (n : CellNode) (start end : ℕ) (ks js : List CellNode) where
  pub edges_stay : (let es = cells_list n.under in es ≡ take start es ++ (ks ++ drop end es)) → AllIn (outside target (x ∷ k) (cells_in ks)) (inner_pieces (cells_in js)) → (leaf : Option CellLeaf) (under : CellNodes) → leaf ≡ n.leaf → (let es = cells_list n.under in under ≡ cells_in (take start es ++ (js ++ drop end es))) → AllIn (outside_node target rest n) (below_pieces leaf under)
  edges_stay whole inner leaf under same is =
      let es = cells_list n.under in
      let xs = take start es in
      let ys = drop end es in
      let beside = stays_beside target x k n start end ks (inner_pieces (cells_in js)) whole inner in
      let all : AllIn (outside_node target (x ∷ k) n) (below_pieces n.leaf (cells_in (xs ++ (js ++ ys)))) =
      all_in_then _ _ _ beside (all_in_is _ _ (beside_is n.leaf xs js ys)) in
      subst (λ (z : Bytes). AllIn (outside_node target z n) (below_pieces leaf under)) (sym first)
      (subst (AllIn (outside_node target (x ∷ k) n)) (λ i. below_pieces (sym same i) (sym is i)) all)

-- ---- inserts

module _ (x : ℕ) (k rest : Bytes) (first : rest ≡ x ∷ k) (n m e : CellNode) (c : Cell) where
  -- a node comes at a new edge
  pub gap_stays : (at : ℕ) → (let es = cells_list n.under in m ≡ (let w : CellNode = record { cell = c; prefix = n.prefix; leaf = n.leaf; under = cells_in (take at es ++ e ∷ drop at es) } in w)) → AllIn (outside_node Key rest n) (inside m)
  gap_stays at is =
      all_in_then _ _ _
      (edges_stay Key x k rest first n at at [] (e ∷ []) (at_gap at (cells_list n.under)) (λ y h. absurd h) m.leaf m.under (ap (λ (w : CellNode). w.leaf) is) (ap (λ (w : CellNode). w.under) is))
      (below_inside m.leaf m.under)

-- another node comes at an edge
module _ (x : ℕ) (k rest : Bytes) (first : rest ≡ x ∷ k) (n m old new : CellNode) (at : ℕ) (c : Cell) (there : slice_get (cells_list n.under) at ≡ Some (led (x ∷ []) old)) (is : let es = cells_list n.under in m ≡ (let w : CellNode = record { cell = c; prefix = n.prefix; leaf = n.leaf; under = cells_in (take at es ++ led (x ∷ []) new ∷ drop (at + 1) es) } in w)) where
  one_stays : AllIn (outside Key (x ∷ k) (cells_in (led (x ∷ []) old ∷ []))) (inside new) → AllIn (outside_node Key rest n) (inside m)
  one_stays inner =
      let ks : List CellNode = led (x ∷ []) old ∷ [] in
      let js : List CellNode = led (x ∷ []) new ∷ [] in
      let edge : AllIn (outside Key (x ∷ k) (cells_in ks)) (inner_pieces (cells_in js)) = all_in_then _ _ _ inner (all_in_is _ _ (sym (append-nil (inside new)))) in
      all_in_then _ _ _
      (edges_stay Key x k rest first n at (at + 1) ks js (at_place at (cells_list n.under) (led (x ∷ []) old) there) edge m.leaf m.under (ap (λ (w : CellNode). w.leaf) is) (ap (λ (w : CellNode). w.under) is))
      (below_inside m.leaf m.under)

  -- that keeps what stays there
  pub edge_stays : (let s = part old.prefix k in AllIn (staying Key s.1 s.2 old.leaf old.under (outside Key s.2 old.under)) (inside new)) → AllIn (outside_node Key rest n) (inside m)
  edge_stays inner = one_stays (subst (λ (zs : List Piece). AllIn zs (inside new)) (sym (outside_edge Key x k old)) inner)

-- all within the node
pub split_stays : (k : Bytes) (old new : CellNode) → AllIn (inside old) (inside new) → let s = part old.prefix k in AllIn (staying Key s.1 s.2 old.leaf old.under (outside Key s.2 old.under)) (inside new)
split_stays k old new inner =
    let s = part old.prefix k in
    all_in_then _ _ _ (staying_in Key s.1 s.2 old.leaf old.under (outside Key s.2 old.under) (outside_inner Key s.2 old.under)) inner

-- or what is outside the rest of the key
pub onward_stays : (k left : Bytes) (old new : CellNode) → Some left ≡ rest_past old.prefix k → AllIn (outside_node Key left old) (inside new) → let s = part old.prefix k in AllIn (staying Key s.1 s.2 old.leaf old.under (outside Key s.2 old.under)) (inside new)
onward_stays k left old new some inner =
    let s = part old.prefix k in
    let past = past_some s.1 s.2 left some in
    subst (λ (zs : List Piece). AllIn zs (inside new)) (λ i. staying Key (sym past.0 i) (sym past.1 i) old.leaf old.under (outside Key (sym past.1 i) old.under)) inner

-- a node is split: a copy of it is under the upper one
under_stays : (lower : CellNode) (ns : List CellNode) → Has lower ns → AllIn (inside lower) (node_pieces (cells_in ns))
under_stays lower [] here x h = absurd here
under_stays lower (n ∷ ns) (inl e) x h =
    inr (subst (Has x) (append_assoc (leaf_pieces n.leaf) (node_pieces n.under) (node_pieces (cells_in ns))) (Has-left x (inside n) (node_pieces (cells_in ns)) (subst (λ (m : CellNode). Has x (inside m)) e h)))
under_stays lower (n ∷ ns) (inr more) x h =
    inr (Has-right x (leaf_pieces n.leaf) (node_pieces n.under ++ node_pieces (cells_in ns)) (Has-right x (node_pieces n.under) (node_pieces (cells_in ns)) (under_stays lower ns more x h)))

pub lower_stays : (k r lower : CellNode) (ns : List CellNode) → inside lower ≡ inside k → r.under ≡ cells_in ns → Has lower ns → AllIn (inside k) (inside r)
lower_stays k r lower ns same is here x h =
    Has-right x (leaf_pieces r.leaf) (node_pieces r.under) (subst (λ (u : CellNodes). Has x (node_pieces u)) (sym is) (under_stays lower ns here x (subst (Has x) (sym same) h)))

-- beside another one, whose prefix begins with another byte
pub lower_there : (beside lower : CellNode) → first_order beside.prefix lower.prefix ≢ Equal → Has lower (cell_put beside (lower ∷ []))
lower_there beside lower other =
    elim (first_order beside.prefix lower.prefix) as (λ o. first_order beside.prefix lower.prefix ≡ o → Has lower (entries.by_order o (beside ∷ lower ∷ []) (beside ∷ []) (lower ∷ beside ∷ []))) [
      | Less ↦ λ e. inr (inl refl)
      | Equal ↦ λ e. absurd (other e)
      | Greater ↦ λ e. inl refl
    ] refl

-- ---- deletes

module _ (target : Target) (x : ℕ) (k rest : Bytes) (first : rest ≡ x ∷ k) (n old : CellNode) (at : ℕ) (there : slice_get (cells_list n.under) at ≡ Some (led (x ∷ []) old)) (leaf : Option CellLeaf) (under : CellNodes) (same : leaf ≡ n.leaf) where
  -- the node at the edge is left with others
  pub above_stays : (left : Bytes) → Some left ≡ rest_past old.prefix k → (js : List CellNode) → (let es = cells_list n.under in under ≡ cells_in (take at es ++ (js ++ drop (at + 1) es))) → AllIn (outside_node target left old) (inner_pieces (cells_in js)) → AllIn (outside_node target rest n) (below_pieces leaf under)
  above_stays left some js is inner =
      let s = part old.prefix k in
      let past = past_some s.1 s.2 left some in
      edges_stay target x k rest first n at (at + 1) (led (x ∷ []) old ∷ []) js (at_place at (cells_list n.under) (led (x ∷ []) old) there)
      (subst (λ (zs : List Piece). AllIn zs (inner_pieces (cells_in js))) (sym (edge_past target x k left old past.0 past.1)) inner) leaf under same is

  -- it goes with all under it
  pub covered_stays : None ≡ rest_past old.prefix k → covers target old.prefix k ≡ true → (let es = cells_list n.under in under ≡ cells_in (take at es ++ drop (at + 1) es)) → AllIn (outside_node target rest n) (below_pieces leaf under)
  covered_stays none covered is =
      edges_stay target x k rest first n at (at + 1) (led (x ∷ []) old ∷ []) [] (at_place at (cells_list n.under) (led (x ∷ []) old) there)
      (subst (λ (zs : List Piece). AllIn zs []) (sym (outside_edge target x k old)) (by_target target covered)) leaf under same is
    where
      by_target : (t : Target) → covers t old.prefix k ≡ true → let s = part old.prefix k in AllIn (staying t s.1 s.2 old.leaf old.under (outside t s.2 old.under)) []
      by_target Key e = absurd (false≢true e)
      by_target Prefix e =
          let s = part old.prefix k in
          let p = past_none s.1 s.2 none in
          subst (λ (zs : List Piece). AllIn zs []) (λ i. staying Prefix (sym p.2 i) (sym (ended old.prefix k e) i) old.leaf old.under (outside Prefix s.2 old.under)) (λ y h. absurd h)

-- what is left stands as a node again
pub kept_stays : (leaf : Option CellLeaf) (under : CellNodes) (r : CellNode) → inside r ≡ inside_of leaf under → AllIn (below_pieces leaf under) (inside r ++ [])
kept_stays leaf under r is = all_in_then _ _ _ (below_inside leaf under) (all_in_is _ _ (sym is ∙ sym (append-nil (inside r))))

-- or it is nothing
pub nothing_stays : (leaf : Option CellLeaf) (es : List CellNode) → leaf ≡ None → None ≡ slice_get es 0 → AllIn (below_pieces leaf (cells_in es)) []
nothing_stays leaf es none empty = all_in_is _ _ (λ i. below_pieces (none i) (no_first es empty i))

-- or one node, which is merged with it
pub only_stays : (leaf : Option CellLeaf) (es : List CellNode) (k r : CellNode) → leaf ≡ None → length es ≤ 1 → Some k ≡ slice_get es 0 → inside r ≡ inside k → AllIn (below_pieces leaf (cells_in es)) (inside r ++ [])
only_stays leaf es k r none few there same =
    all_in_is _ _ ((λ i. below_pieces (none i) (cells_in (one_only es k few there i))) ∙ ap (λ (zs : List Piece). zs ++ []) (sym same))

-- ---- in a whole tree

pub tree_stays : (target : Target) (key : Bytes) (t u : CellTree) (n r : CellNode) → tree_at n ≡ t → tree_at r ≡ u → AllIn (outside_node target key n) (inside r) → AllIn (outside_node target key (root_of t)) (pieces_of u)
tree_stays target key t u n r is to f =
    subst (λ (z : CellTree). AllIn (outside_node target key (root_of z)) (pieces_of u)) is
    (subst (λ (z : CellTree). AllIn (outside_node target key n) (pieces_of z)) to (λ x h. inr (f x h)))
