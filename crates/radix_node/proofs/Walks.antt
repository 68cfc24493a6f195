-- Where a walk ends, and that it comes to a node which sits on its way.
use Rattle.std.proofs.Common.{◌≡◌, ◌<◌, ◌⊎◌, inl, inr, ◌++◌, ◌∷◌, ◌∙◌, ℕ, false, List, [], Option, None, refl, sym, ap, subst, append_assoc, Ordering, Less, Equal, Greater}
use Rattle.std.proofs.lemmas.List.{append-nil}
use Rattle.std.specs.Ordering.{nat_cmp}
use Rattle.std.specs.FinMap.Entries as entries
use Rattle.mdb_datum.specs.Bytes.{Bytes}
use Rattle.mdb_datum.specs.Row.{Pair}
use Rattle.radix_node.specs.Cells.{CellLeaf, CellNode, CellNodes, no_cells, celled, CellTree, plain_leaf, plain_nodes, plain_of, root_of}
use Rattle.radix_node.specs.Nodes.{part, first_order, pairs_of_leaf, pairs_of_nodes}
use Rattle.radix_node.specs.Shape.{IsShaped}
use Rattle.radix_node.specs.Seek.{seek, seek_plain, found}
use Rattle.radix_node.specs.WalkDown.{End, arrived, walk, walk_tree, leaf_if, end_leaf, pairs_if, end_pairs}
use Rattle.radix_node.proofs.ByteCompare.{what_equal, equal_from, greater_from}
use Rattle.radix_node.proofs.Parts.{part_parts, part_first}
use Rattle.radix_node.proofs.PathFilter.{when, walked_at, walked, walked_plain}
use Rattle.radix_node.proofs.PrefixSeek.{inside}
use Rattle.radix_node.proofs.NodesBelow.{Sits, first_of_sits}

-- a key that begins with a prefix parts from it at its end
pub part_append : (p k : Bytes) → part p (p ++ k) ≡ (p, [], k)
part_append [] k = refl
part_append (a ∷ p) k = part_first a p (p ++ k) ∙ ap (λ (s : List ℕ × List ℕ × List ℕ). let r : List ℕ × List ℕ × List ℕ = (a ∷ s.0, s.1, s.2) in r) (part_append p k)

-- where a walk ends that has come to a node
abbrev pub on_at : CellNode → Bytes → End
on_at n rest =
    let s = part n.prefix rest in
    let here : End = record { node = n; rest = rest } in
    arrived here s.1 s.2 (walk here s.2 n.under)

-- ---- it ends above the nodes, or comes to one of them and goes on there

pub record Enters (rest : Bytes) (ns : CellNodes) (e : End) : Type 0 where
  pub path : Bytes
  pub b : ℕ
  pub p : Bytes
  pub r : Bytes
  pub sits : Sits path e.node ns
  pub whole : rest ≡ path ++ b ∷ r
  pub left : e.rest ≡ b ∷ r
  pub first : e.node.prefix ≡ b ∷ p
  pub on : e ≡ on_at e.node (b ∷ r)

abbrev pub Ends : End → Bytes → CellNodes → End → Type 0
Ends above rest ns e = (e ≡ above) ⊎ Enters rest ns e

module _ (above : End) (x : ℕ) (k : Bytes) (n : CellNode) (c : ℕ) (m : Bytes) (later : CellNodes) (first : n.prefix ≡ c ∷ m) (same : x ≡ c) where
  abbrev entered : End
  entered = record { node = n; rest = x ∷ k }

  abbrev nodes : CellNodes
  nodes = celled n.cell n.prefix n.leaf n.under later

  stays : entered ≡ on_at n (x ∷ k) → Enters (x ∷ k) nodes entered
  stays on = record { path = []; b = x; p = m; r = k; sits = inl (refl, refl); whole = refl; left = refl; first = first ∙ ap (λ (z : ℕ). z ∷ m) (sym same); on = on }

  -- by the parts of the node's prefix and the key
  ends_at : (p1 k1 : Bytes) → (p1 ≡ [] → x ∷ k ≡ n.prefix ++ k1) → arrived entered p1 k1 (walk entered k1 n.under) ≡ on_at n (x ∷ k) → ((y : ℕ) (z : Bytes) → Ends entered (y ∷ z) n.under (walk entered (y ∷ z) n.under)) → Ends above (x ∷ k) nodes (arrived entered p1 k1 (walk entered k1 n.under))
  ends_at (y ∷ p1) k1 whole on inner = inr (stays on)
  ends_at [] [] whole on inner = inr (stays on)
  ends_at [] (y ∷ k1) whole on inner =
      elim (inner y k1) [
        | inl e ↦ inr (subst (Enters (x ∷ k) nodes) (sym e) (stays (sym e ∙ on)))
        | inr w ↦ inr (record {
          path = n.prefix ++ w.path;
          b = w.b;
          p = w.p;
          r = w.r;
          sits = inr (inl (w.path, refl, w.sits));
          whole = whole refl ∙ ap (λ (z : Bytes). n.prefix ++ z) w.whole ∙ sym (append_assoc n.prefix w.path (w.b ∷ w.r));
          left = w.left;
          first = w.first;
          on = w.on;
        })
      ]

pub walk_ends : (above : End) (x : ℕ) (k : Bytes) (path : Bytes) (ns : CellNodes) → IsShaped path (plain_nodes ns) → Ends above (x ∷ k) ns (walk above (x ∷ k) ns)
walk_ends above x k path no_cells s = inl refl
walk_ends above x k path (celled cell [] leaf under later) s = absurd s
walk_ends above x k path (celled cell (c ∷ m) leaf under later) s =
    let ns = celled cell (c ∷ m) leaf under later in
    let n : CellNode = record { cell = cell; prefix = c ∷ m; leaf = leaf; under = under } in
    let end : End = record { node = n; rest = x ∷ k } in
    let t = part (c ∷ m) (x ∷ k) in
    elim (nat_cmp x c) as (λ o. nat_cmp x c ≡ o → Ends above (x ∷ k) ns (entries.by_order o above (arrived end t.1 t.2 (walk end t.2 under)) (walk above (x ∷ k) later))) [
      | Less ↦ λ o. inl refl
      | Equal ↦ λ o.
          let is = part_parts (c ∷ m) (x ∷ k) in
          ends_at above x k n c m later refl (what_equal x c o) t.1 t.2
          (λ none. is.second ∙ ap (λ (z : Bytes). z ++ t.2) (sym (is.first ∙ ap (λ (z : Bytes). t.0 ++ z) none ∙ append-nil t.0))) refl
          (λ y z. walk_ends end y z (path ++ c ∷ m) under s.under)
      | Greater ↦ λ o. elim (walk_ends above x k path later s.later) [
        | inl e ↦ inl e
        | inr w ↦ inr (record { path = w.path; b = w.b; p = w.p; r = w.r; sits = inr (inr w.sits); whole = w.whole; left = w.left; first = w.first; on = w.on })
      ]
    ] refl

-- ---- it comes to each node on its way

walk_more : (here below : End) (z : Bytes) (b : ℕ) (r : Bytes) → arrived here [] (z ++ b ∷ r) below ≡ below
walk_more here below [] b r = refl
walk_more here below (y ∷ z) b r = refl

-- by the node whose prefix the key goes on with
walk_in : (above : End) (c : ℕ) (m k : Bytes) (n : CellNode) (later : CellNodes) → n.prefix ≡ c ∷ m → walk above (c ∷ m ++ k) (celled n.cell n.prefix n.leaf n.under later) ≡ on_at n (c ∷ m ++ k)
walk_in above c m k n later e =
    ap (λ o. entries.by_order o above (on_at n (c ∷ m ++ k)) (walk above (c ∷ m ++ k) later)) (ap (first_order (c ∷ m ++ k)) e ∙ equal_from c c refl)

pub on_below : (n : CellNode) (k : Bytes) → on_at n (n.prefix ++ k) ≡ (let here : End = record { node = n; rest = n.prefix ++ k } in arrived here [] k (walk here k n.under))
on_below n k =
    let here : End = record { node = n; rest = n.prefix ++ k } in
    ap (λ (s : List ℕ × List ℕ × List ℕ). arrived here s.1 s.2 (walk here s.2 n.under)) (part_append n.prefix k)

pub walk_reaches : (above : End) (q : Bytes) (n : CellNode) (path : Bytes) (ns : CellNodes) → IsShaped path (plain_nodes ns) → Sits q n ns → (b : ℕ) (p r : Bytes) → n.prefix ≡ b ∷ p → walk above (q ++ b ∷ r) ns ≡ on_at n (b ∷ r)
walk_reaches above q n path no_cells s at b p r e = absurd at
walk_reaches above q n path (celled cell [] leaf under later) s at b p r e = absurd s
walk_reaches above q n path (celled cell (c ∷ m) leaf under later) s (inl w) b p r e =
    let ns = celled cell (c ∷ m) leaf under later in
    let here : CellNode = record { cell = cell; prefix = c ∷ m; leaf = leaf; under = under } in
    let whole : c ∷ m ≡ b ∷ p = ap (λ (z : CellNode). z.prefix) (sym w.1) ∙ e in
    let same : b ≡ c = cc in
    ap (λ (z : Bytes). walk above (z ++ b ∷ r) ns) w.0
    ∙ ap (λ o. entries.by_order o above (on_at here (b ∷ r)) (walk above (b ∷ r) later)) (equal_from b c same)
    ∙ ap (λ (z : CellNode). on_at z (b ∷ r)) (sym w.1)
walk_reaches above q n path (celled cell (c ∷ m) leaf under later) s (inr (inl w)) b p r e =
    let ns = celled cell (c ∷ m) leaf under later in
    let here : CellNode = record { cell = cell; prefix = c ∷ m; leaf = leaf; under = under } in
    let end : End = record { node = here; rest = (c ∷ m) ++ (w.0 ++ b ∷ r) } in
    ap (λ (z : Bytes). walk above z ns) (ap (λ (z : Bytes). z ++ b ∷ r) w.1 ∙ append_assoc (c ∷ m) w.0 (b ∷ r))
    ∙ walk_in above c m (w.0 ++ b ∷ r) here later refl
    ∙ on_below here (w.0 ++ b ∷ r)
    ∙ walk_more end (walk end (w.0 ++ b ∷ r) under) w.0 b r
    ∙ walk_reaches end w.0 n (path ++ c ∷ m) under s.under w.2 b p r e
walk_reaches above q n path (celled cell (c ∷ m) leaf under later) s (inr (inr at)) b p r e =
    let ns = celled cell (c ∷ m) leaf under later in
    let here : CellNode = record { cell = cell; prefix = c ∷ m; leaf = leaf; under = under } in
    let f = first_of_sits (λ y. c < y) q n later s.apart at b p r e in
    ap (λ (z : Bytes). walk above z ns) f.2
    ∙ ap (λ o. entries.by_order o above (on_at here (f.0 ∷ f.1)) (walk above (f.0 ∷ f.1) later)) (greater_from f.0 c f.3)
    ∙ ap (λ (z : Bytes). walk above z later) (sym f.2)
    ∙ walk_reaches above q n path later s.later at b p r e

-- ---- what it finds

found_end : (here : End) (leaf : Option CellLeaf) (under : CellNodes) (p k : Bytes) → end_leaf here ≡ leaf_if p k leaf → (end_leaf here ≡ None → (y : ℕ) (z : Bytes) → seek (y ∷ z) (plain_nodes under) ≡ plain_leaf (end_leaf (walk here (y ∷ z) under))) → found p k (plain_leaf leaf) (seek k (plain_nodes under)) ≡ plain_leaf (end_leaf (arrived here p k (walk here k under)))
found_end here leaf under (y ∷ p) k e inner = ap plain_leaf (sym e)
found_end here leaf under [] [] e inner = ap plain_leaf (sym e)
found_end here leaf under [] (x ∷ k) e inner = inner e x k

pub seek_end : (above : End) (x : ℕ) (k : Bytes) (ns : CellNodes) → end_leaf above ≡ None → seek (x ∷ k) (plain_nodes ns) ≡ plain_leaf (end_leaf (walk above (x ∷ k) ns))
seek_end above x k no_cells none = ap plain_leaf (sym none)
seek_end above x k (celled cell prefix leaf under later) none =
    let s = part prefix (x ∷ k) in
    let here : End = record { node = record { cell = cell; prefix = prefix; leaf = leaf; under = under }; rest = x ∷ k } in
    elim (first_order (x ∷ k) prefix) as (λ o. entries.by_order o None (found s.1 s.2 (plain_leaf leaf) (seek s.2 (plain_nodes under))) (seek (x ∷ k) (plain_nodes later)) ≡ plain_leaf (end_leaf (entries.by_order o above (arrived here s.1 s.2 (walk here s.2 under)) (walk above (x ∷ k) later)))) [
      | Less ↦ ap plain_leaf (sym none)
      | Equal ↦ found_end here leaf under s.1 s.2 refl (λ e y z. seek_end here y z under e)
      | Greater ↦ seek_end above x k later none
    ]

pub get_end : (key : Bytes) (t : CellTree) → seek_plain key (plain_of t) ≡ plain_leaf (end_leaf (walk_tree key t))
get_end [] t = refl
get_end (x ∷ k) t = seek_end (record { node = root_of t; rest = x ∷ k }) x k t.nodes refl

none_kept : (o : Ordering) (own under : List Pair) → (let b = entries.by_order o false false false in when b own ++ when b under) ≡ (let none : List Pair = [] in none)
none_kept Less own under = refl
none_kept Equal own under = refl
none_kept Greater own under = refl

inside_end : (here : End) (leaf : Option CellLeaf) (under : CellNodes) (p k : Bytes) → end_pairs here ≡ pairs_if k here.node → here.node.leaf ≡ leaf → here.node.under ≡ under → (end_pairs here ≡ [] → (y : ℕ) (z : Bytes) → walked inside (y ∷ z) (plain_nodes under) ≡ end_pairs (walk here (y ∷ z) under)) → walked_at inside p k (pairs_of_leaf (plain_leaf leaf)) (pairs_of_nodes (plain_nodes under)) (walked inside k (plain_nodes under)) ≡ end_pairs (arrived here p k (walk here k under))
inside_end here leaf under (y ∷ p) [] e f g inner = sym (e ∙ (λ i. pairs_of_leaf (plain_leaf (f i)) ++ pairs_of_nodes (plain_nodes (g i))))
inside_end here leaf under (y ∷ p) (x ∷ k) e f g inner =
    none_kept (nat_cmp x y) (pairs_of_leaf (plain_leaf leaf)) (pairs_of_nodes (plain_nodes under)) ∙ sym e
inside_end here leaf under [] [] e f g inner = sym (e ∙ (λ i. pairs_of_leaf (plain_leaf (f i)) ++ pairs_of_nodes (plain_nodes (g i))))
inside_end here leaf under [] (x ∷ k) e f g inner = inner e x k

pub inside_walk : (above : End) (x : ℕ) (k : Bytes) (ns : CellNodes) → end_pairs above ≡ [] → walked inside (x ∷ k) (plain_nodes ns) ≡ end_pairs (walk above (x ∷ k) ns)
inside_walk above x k no_cells none = sym none
inside_walk above x k (celled cell prefix leaf under later) none =
    let s = part prefix (x ∷ k) in
    let here : End = record { node = record { cell = cell; prefix = prefix; leaf = leaf; under = under }; rest = x ∷ k } in
    let at = walked_at inside s.1 s.2 (pairs_of_leaf (plain_leaf leaf)) (pairs_of_nodes (plain_nodes under)) (walked inside s.2 (plain_nodes under)) in
    elim (first_order (x ∷ k) prefix) as (λ o. entries.by_order o (let nothing : List Pair = [] in nothing) (at ++ []) (walked inside (x ∷ k) (plain_nodes later)) ≡ end_pairs (entries.by_order o above (arrived here s.1 s.2 (walk here s.2 under)) (walk above (x ∷ k) later))) [
      | Less ↦ sym none
      | Equal ↦ append-nil at ∙ inside_end here leaf under s.1 s.2 refl refl refl (λ e y z. inside_walk here y z under e)
      | Greater ↦ inside_walk above x k later none
    ]

pub scan_end : (prefix : Bytes) (t : CellTree) → walked_plain inside prefix (plain_of t) ≡ end_pairs (walk_tree prefix t)
scan_end [] t = refl
scan_end (x ∷ k) t = inside_walk (record { node = root_of t; rest = x ∷ k }) x k t.nodes refl
