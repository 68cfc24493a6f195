-- The first and the last pair under a node, found by the first and by the last edges.
use Rattle.std.proofs.Common.{◌≡◌, ◌≢◌, ◌<◌, ◌≤◌, ◌-◌, ◌++◌, ◌∷◌, ◌∙◌, ℕ, suc, false, Bor, List, [], length, map, slice_get, Option, Some, None, option_map, refl, sym, ap, subst, arith, append_assoc}
use Rattle.std.specs.Prelude.{reverse, is_some, option_map}
use Rattle.std.proofs.lemmas.Bool.{false≢true}
use Rattle.std.proofs.lemmas.List.{map-append, reverse-append, reverse-reverse}
use Rattle.mdb_datum.specs.Pairs.{first_item, last_item, rows_of}
use Rattle.mdb_datum.specs.Row.{Fields, Pair}
use Rattle.radix_node.specs.Node.{PlainNode, below, nodes_in, edge_node, plain_edge}
use Rattle.radix_node.specs.Cells.{CellLeaf}
use Rattle.radix_node.specs.Nodes.{Nodes, no_nodes, node, pairs_of_leaf, pairs_of_nodes, pairs_of}
use Rattle.radix_node.specs.Shape.{IsBranching, IsShaped, width}
use Rattle.radix_node.specs.declared.edge.Edge.{Edge}
use Rattle.radix_iter.proofs.NodeCount.{size, size_at, size_within}
use Rattle.radix_iter.proofs.RowsGathered.{pairs_at_edge, pairs_at_edges, pairs_one, pairs_last}
use Rattle.radix_node.proofs.Lookup.{row_of_pair}

-- ---- the ends of lists

first_front : {A : Type 0} → (xs ys : List A) → xs ≢ [] → first_item (xs ++ ys) ≡ first_item xs
first_front [] ys some = absurd (some refl)
first_front (x ∷ xs) ys some = refl

reverse_some : {A : Type 0} → (xs : List A) → xs ≢ [] → reverse xs ≢ []
reverse_some xs some none = some (sym (reverse-reverse xs) ∙ ap reverse none)

last_back : {A : Type 0} → (xs ys : List A) → ys ≢ [] → last_item (xs ++ ys) ≡ last_item ys
last_back xs ys some = ap first_item (reverse-append xs ys) ∙ first_front (reverse ys) (reverse xs) (reverse_some ys some)

first_row : (ps : List Pair) → first_item (rows_of ps) ≡ row_of_pair (first_item ps)
first_row [] = refl
first_row (p ∷ ps) = refl

rows_reversed : (ps : List Pair) → reverse (rows_of ps) ≡ rows_of (reverse ps)
rows_reversed [] = refl
rows_reversed (p ∷ ps) =
    reverse-append (p.1 ∷ []) (rows_of ps) ∙ ap (λ (z : List Fields). z ++ p.1 ∷ []) (rows_reversed ps)
    ∙ sym (map-append (λ (q : Pair). q.1) (reverse ps) (p ∷ [])) ∙ ap rows_of (sym (reverse-append (p ∷ []) ps))

pub last_row : (ps : List Pair) → last_item (rows_of ps) ≡ row_of_pair (last_item ps)
last_row ps = ap first_item (rows_reversed ps) ∙ first_row (reverse ps)

-- ---- there is a key under each edge

joined_some : {A : Type 0} → (xs ys : List A) → xs ≢ [] → xs ++ ys ≢ []
joined_some [] ys some = absurd (some refl)
joined_some (x ∷ xs) ys some = λ e. cc

some_under : (path : List ℕ) (ns : Nodes) → IsShaped path ns → 1 ≤ width ns → pairs_of_nodes ns ≢ []
some_under path no_nodes s some = absurd (omega arith)
some_under path (node [] leaf under later) s some = absurd s
some_under path (node (b ∷ p) (Some pair) under later) s some = λ e. cc
some_under path (node (b ∷ p) None under later) s some =
    joined_some (pairs_of_nodes under) (pairs_of_nodes later) (some_under (path ++ b ∷ p) under s.under (let two : 2 ≤ width under = s.branching in omega arith))

some_at : (path : List ℕ) (leaf : Option Pair) (under : Nodes) → IsBranching leaf under → IsShaped path under → pairs_of_leaf leaf ++ pairs_of_nodes under ≢ []
some_at path None under branching s = some_under path under s (let two : 2 ≤ width under = branching in omega arith)
some_at path (Some pair) under branching s = λ e. cc

-- what is known of the node that an edge leads to
record IsUnderEdge (path : List ℕ) (e : Edge) : Type 0 where
  shaped : IsShaped (path ++ (edge_node e).prefix) (plain_edge e).node.under
  some : pairs_at_edge e ≢ []

under_edge : (path : List ℕ) (e : Edge) (es : List Edge) → IsShaped path (nodes_in (map edge_node (e ∷ es))) → IsUnderEdge path e
under_edge path e es s =
    let n = (plain_edge e).node in
    record { shaped = s.under; some = some_at (path ++ (edge_node e).prefix) n.leaf n.under s.branching s.under }

-- ---- down by the first edges

-- the pair of a leaf that is lent
abbrev pub lent_pair : Option (Bor CellLeaf) → Option Pair
lent_pair o = option_map (λ (l : Bor CellLeaf). l.now.pair) o

leaf_none : (o : Option (Bor CellLeaf)) (leaf : Option Pair) → lent_pair o ≡ leaf → is_some o ≡ false → leaf ≡ None
leaf_none None leaf is e = sym is
leaf_none (Some pair) leaf is e = absurd (false≢true (sym e))

pub record IsFirstAt (whole : Option Pair) (n : PlainNode) : Type 0 where
  pub path : List ℕ
  pub shaped : IsShaped path n.under
  pub same : first_item (pairs_of (below n)) ≡ whole

module _ (whole : Option Pair) (n : PlainNode) (on : IsFirstAt whole n) (o : Option (Bor CellLeaf)) (is_leaf : lent_pair o ≡ n.leaf) (bare : is_some o ≡ false) where
  at_edges : (es : List Edge) → nodes_in (map edge_node es) ≡ n.under → first_item (pairs_at_edges es) ≡ whole
  at_edges es all = (λ i. first_item (pairs_of_leaf (sym (leaf_none o n.leaf is_leaf bare) i) ++ pairs_of_nodes (all i))) ∙ on.same

  first_at : (e : Edge) (es : List Edge) → nodes_in (map edge_node (e ∷ es)) ≡ n.under → IsFirstAt whole (plain_edge e).node
  first_at e es all =
      let known = under_edge on.path e es (subst (IsShaped on.path) (sym all) on.shaped) in
      record {
        path = on.path ++ (edge_node e).prefix;
        shaped = known.shaped;
        same = sym (ap first_item (pairs_one e es) ∙ first_front (pairs_at_edge e) (pairs_at_edges es) known.some) ∙ at_edges (e ∷ es) all;
      }

  pub first_edge : (es : List Edge) → nodes_in (map edge_node es) ≡ n.under → (e : Edge) → Some e ≡ slice_get es 0 → (m : PlainNode) → m ≡ (plain_edge e).node → IsFirstAt whole m
  first_edge [] all e there m is = absurd cc
  first_edge (d ∷ es) all e there m is = subst (IsFirstAt whole) (sym (is ∙ ap (λ (z : Edge). (plain_edge z).node) (let same : e ≡ d = cc in same))) (first_at d es all)

-- ---- down by the last edges

-- a list up to its last item
pub up_to_last : {A : Type 0} → (xs : List A) (x : A) → Some x ≡ slice_get xs (length xs - 1) → (front : List A) × (xs ≡ front ++ x ∷ [])
up_to_last [] x is = absurd cc
up_to_last (y ∷ []) x is = ([], ap (λ z. z ∷ []) (let same : y ≡ x = cc in same))
up_to_last (y ∷ z ∷ xs) x is =
    let later = up_to_last (z ∷ xs) x (is ∙ ap (slice_get (y ∷ z ∷ xs)) (let e : length (y ∷ z ∷ xs) - 1 ≡ suc (length (z ∷ xs) - 1) = omega arith in e)) in
    (y ∷ later.0, ap (λ zs. y ∷ zs) later.1)

last_shaped : (path : List ℕ) (es : List Edge) (e : Edge) → IsShaped path (nodes_in (map edge_node (es ++ e ∷ []))) → IsUnderEdge path e
last_shaped path [] e s = under_edge path e [] s
last_shaped path (d ∷ es) e s = last_shaped path es e s.later

pub record IsLastAt (whole : Option Pair) (n : PlainNode) : Type 0 where
  pub path : List ℕ
  pub shaped : IsShaped path n.under
  pub same : last_item (pairs_of (below n)) ≡ whole

module _ (whole : Option Pair) (n : PlainNode) (on : IsLastAt whole n) where
  last_at : (es : List Edge) (e : Edge) → nodes_in (map edge_node (es ++ e ∷ [])) ≡ n.under → IsLastAt whole (plain_edge e).node
  last_at es e all =
      let known = last_shaped on.path es e (subst (IsShaped on.path) (sym all) on.shaped) in
      record {
        path = on.path ++ (edge_node e).prefix;
        shaped = known.shaped;
        same =
            sym (last_back (pairs_of_leaf n.leaf ++ pairs_at_edges es) (pairs_at_edge e) known.some)
            ∙ ap last_item (append_assoc (pairs_of_leaf n.leaf) (pairs_at_edges es) (pairs_at_edge e) ∙ ap (λ (z : List Pair). pairs_of_leaf n.leaf ++ z) (sym (pairs_last es e) ∙ ap pairs_of_nodes all))
            ∙ on.same;
      }

  module _ (es : List Edge) (all : nodes_in (map edge_node es) ≡ n.under) (e : Edge) (there : Some e ≡ slice_get es (length es - 1)) (m : PlainNode) (is : m ≡ (plain_edge e).node) where
    pub last_edge : IsLastAt whole m
    last_edge =
        let front = up_to_last es e there in
        subst (IsLastAt whole) (sym is) (last_at front.0 e (ap (λ (z : List Edge). nodes_in (map edge_node z)) (sym front.1) ∙ all))

    pub last_smaller : size m.under < size n.under
    last_smaller =
        let front = up_to_last es e there in
        omega (arith, size_within front.0 [] e, ap size all, ap size_at front.1, ap (λ (z : PlainNode). size z.under) is)
