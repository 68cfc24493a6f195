-- An edit or a look-up among edges, told by the place of the first byte.
use Rattle.std.proofs.Common.{◌≡◌, ◌≢◌, ◌+◌, ◌++◌, ◌∷◌, ◌∙◌, ℕ, List, [], take, drop, Option, Some, None, option_to_list, Ok, Err, refl, sym, ap, Ordering, Less, Equal, Greater}
use Rattle.std.specs.List.{slice_get}
use Rattle.std.specs.FinMap.Entries as entries
use Rattle.mdb_datum.specs.Row.{Pair}
use Rattle.radix_node.specs.Nodes.{Nodes, no_nodes, node, part, first_order}
use Rattle.radix_node.specs.Seek.{seek, seek_plain, found}
use Rattle.radix_node.specs.Edges.{place_of}
use Rattle.radix_node.specs.Node.{PlainNode, nodes_in, below, left_of, rest_past}
use Rattle.radix_node.proofs.Levels.{first_byte}
use Rattle.radix_txn.specs.declared.target.Target.{Target}
use Rattle.radix_txn.specs.declared.target.Target.TheVariants.{Key, Prefix}
use Rattle.radix_txn.specs.inner.Edits.{insert, grown, remove, remove_plain, settled, cut}
use Rattle.radix_txn.specs.inner.PutAt.{grown_parts, grown_node}
use Rattle.radix_txn.specs.inner.Below.{settled_node}
use Rattle.radix_txn.proofs.EdgePlaces.{Before, After, standing, gap, standing_front, standing_back, standing_child, gap_front, gap_back}

-- the first node and those after it
abbrev pub first_node : PlainNode → Nodes → Nodes
first_node n later = node n.prefix n.leaf n.under later

-- the order that a search for a key sees at an edge
turn : (x : ℕ) (k : List ℕ) (n : PlainNode) (o : Ordering) → first_order (x ∷ []) n.prefix ≡ o → first_order (x ∷ k) n.prefix ≡ o
turn x k n o e = first_byte x k n.prefix ∙ e

-- ---- insert

grown_is : (pair : Pair) (shared p k : List ℕ) (n : PlainNode) (under : Nodes) (later : List PlainNode) → grown pair shared p k n.leaf n.under under (nodes_in later) ≡ nodes_in (grown_parts pair shared p k n under ∷ later)
grown_is pair shared [] [] n under later = refl
grown_is pair shared [] (x ∷ k) n under later = refl
grown_is pair shared (y ∷ p) [] n under later = refl
grown_is pair shared (y ∷ p) (x ∷ k) n under later = refl

module _ (pair : Pair) (x : ℕ) (k : List ℕ) where
  insert_by : (n : PlainNode) (later : Nodes) (o : Ordering) → first_order (x ∷ []) n.prefix ≡ o → insert pair (x ∷ k) (first_node n later) ≡ (let parts = part n.prefix (x ∷ k) in entries.by_order o (node (x ∷ k) (Some pair) no_nodes (first_node n later)) (grown pair parts.0 parts.1 parts.2 n.leaf n.under (insert pair parts.2 n.under) later) (first_node n (insert pair (x ∷ k) later)))
  insert_by n later o e =
      let parts = part n.prefix (x ∷ k) in
      ap (λ z. entries.by_order z (node (x ∷ k) (Some pair) no_nodes (first_node n later)) (grown pair parts.0 parts.1 parts.2 n.leaf n.under (insert pair parts.2 n.under) later) (first_node n (insert pair (x ∷ k) later))) (turn x k n o e)

  insert_front : (front back : List PlainNode) (n : PlainNode) → Before x front → first_order (x ∷ []) n.prefix ≡ Equal → insert pair (x ∷ k) (nodes_in (front ++ n ∷ back)) ≡ nodes_in (front ++ grown_node pair (x ∷ k) n ∷ back)
  insert_front [] back n b e =
      let parts = part n.prefix (x ∷ k) in
      insert_by n (nodes_in back) Equal e ∙ grown_is pair parts.0 parts.1 parts.2 n (insert pair parts.2 n.under) back
  insert_front (m ∷ front) back n b e = insert_by m (nodes_in (front ++ n ∷ back)) Greater b.0 ∙ ap (first_node m) (insert_front front back n b.1 e)

  insert_gap : (front back : List PlainNode) → Before x front → After x back → insert pair (x ∷ k) (nodes_in (front ++ back)) ≡ nodes_in (front ++ (let m : PlainNode = record { prefix = x ∷ k; leaf = Some pair; under = no_nodes } in m) ∷ back)
  insert_gap [] [] b a = refl
  insert_gap [] (n ∷ back) b a = insert_by n (nodes_in back) Less a
  insert_gap (m ∷ front) back b a = insert_by m (nodes_in (front ++ back)) Greater b.0 ∙ ap (first_node m) (insert_gap front back b.1 a)

  pub insert_at_place : (es : List PlainNode) (at : ℕ) (n : PlainNode) → place_of x es ≡ Ok at → slice_get es at ≡ Some n → insert pair (x ∷ k) (nodes_in es) ≡ nodes_in (take at es ++ grown_node pair (x ∷ k) n ∷ drop (at + 1) es)
  insert_at_place es at n e there =
      let s = standing x es at e in
      let same : s.child ≡ n = cc (standing_child x es at s) in
      ap (λ (z : List PlainNode). insert pair (x ∷ k) (nodes_in z)) s.whole
      ∙ insert_front s.front s.back s.child s.before s.equal
      ∙ (λ i. nodes_in (sym (standing_front x es at s) i ++ grown_node pair (x ∷ k) (same i) ∷ sym (standing_back x es at s) i))

  pub insert_at_gap : (es : List PlainNode) (at : ℕ) → place_of x es ≡ Err at → insert pair (x ∷ k) (nodes_in es) ≡ nodes_in (take at es ++ (let m : PlainNode = record { prefix = x ∷ k; leaf = Some pair; under = no_nodes } in m) ∷ drop at es)
  insert_at_gap es at e =
      let s = gap x es at e in
      let m : PlainNode = record { prefix = x ∷ k; leaf = Some pair; under = no_nodes } in
      ap (λ (z : List PlainNode). insert pair (x ∷ k) (nodes_in z)) s.whole
      ∙ insert_gap s.front s.back s.before s.after
      ∙ (λ i. nodes_in (sym (gap_front x es at s) i ++ m ∷ sym (gap_back x es at s) i))

-- ---- edits that change the node at the place alone

-- the nodes in place of those at the place
pub record IsEditAt (x : ℕ) (k : List ℕ) (edit : Nodes → Nodes) (change : PlainNode → Nodes → Nodes) : Type 0 where
  pub none : edit no_nodes ≡ no_nodes
  pub step : (n : PlainNode) (later : Nodes) → edit (first_node n later) ≡ entries.by_order (first_order (x ∷ k) n.prefix) (first_node n later) (change n later) (first_node n (edit later))

-- nodes before others
abbrev pub before_nodes : List PlainNode → Nodes → Nodes
before_nodes [] later = later
before_nodes (n ∷ ns) later = first_node n (before_nodes ns later)

pub nodes_joined : (ns ms : List PlainNode) → before_nodes ns (nodes_in ms) ≡ nodes_in (ns ++ ms)
nodes_joined [] ms = refl
nodes_joined (n ∷ ns) ms = ap (first_node n) (nodes_joined ns ms)

module _ (x : ℕ) (k : List ℕ) (edit : Nodes → Nodes) (change : PlainNode → Nodes → Nodes) (is : IsEditAt x k edit change) where
  edit_by : (n : PlainNode) (later : Nodes) (o : Ordering) → first_order (x ∷ []) n.prefix ≡ o → edit (first_node n later) ≡ entries.by_order o (first_node n later) (change n later) (first_node n (edit later))
  edit_by n later o e = is.step n later ∙ ap (λ z. entries.by_order z (first_node n later) (change n later) (first_node n (edit later))) (turn x k n o e)

  edit_front : (front back : List PlainNode) (n : PlainNode) → Before x front → first_order (x ∷ []) n.prefix ≡ Equal → edit (nodes_in (front ++ n ∷ back)) ≡ before_nodes front (change n (nodes_in back))
  edit_front [] back n b e = edit_by n (nodes_in back) Equal e
  edit_front (m ∷ front) back n b e = edit_by m (nodes_in (front ++ n ∷ back)) Greater b.0 ∙ ap (first_node m) (edit_front front back n b.1 e)

  edit_gap : (front back : List PlainNode) → Before x front → After x back → edit (nodes_in (front ++ back)) ≡ nodes_in (front ++ back)
  edit_gap [] [] b a = is.none
  edit_gap [] (n ∷ back) b a = edit_by n (nodes_in back) Less a
  edit_gap (m ∷ front) back b a = edit_by m (nodes_in (front ++ back)) Greater b.0 ∙ ap (first_node m) (edit_gap front back b.1 a)

  pub edit_at_place : (es : List PlainNode) (at : ℕ) (n : PlainNode) → place_of x es ≡ Ok at → slice_get es at ≡ Some n → edit (nodes_in es) ≡ before_nodes (take at es) (change n (nodes_in (drop (at + 1) es)))
  edit_at_place es at n e there =
      let s = standing x es at e in
      let same : s.child ≡ n = cc (standing_child x es at s) in
      ap (λ (z : List PlainNode). edit (nodes_in z)) s.whole
      ∙ edit_front s.front s.back s.child s.before s.equal
      ∙ (λ i. before_nodes (sym (standing_front x es at s) i) (change (same i) (nodes_in (sym (standing_back x es at s) i))))

  pub edit_at_gap : (es : List PlainNode) (at : ℕ) → place_of x es ≡ Err at → edit (nodes_in es) ≡ nodes_in es
  edit_at_gap es at e =
      let s = gap x es at e in
      ap (λ (z : List PlainNode). edit (nodes_in z)) s.whole
      ∙ edit_gap s.front s.back s.before s.after
      ∙ ap nodes_in (sym s.whole)

-- ---- look-up

found_onward : (p k : List ℕ) (leaf : Option Pair) (under : Nodes) (l : List ℕ) → left_of p k ≡ Some l → found p k leaf (seek k under) ≡ seek_plain l (record { leaf = leaf; nodes = under })
found_onward [] [] leaf under l e = let same : l ≡ [] = cc in ap (λ (z : List ℕ). seek_plain z (record { leaf = leaf; nodes = under })) (sym same)
found_onward [] (x ∷ k) leaf under l e = let same : l ≡ x ∷ k = cc in ap (λ (z : List ℕ). seek_plain z (record { leaf = leaf; nodes = under })) (sym same)
found_onward (y ∷ p) k leaf under l e = cc

found_parted : (p k : List ℕ) (leaf under : Option Pair) → left_of p k ≡ None → found p k leaf under ≡ None
found_parted [] k leaf under e = cc
found_parted (y ∷ p) k leaf under e = refl

-- what a look-up finds at a node, or under it
abbrev pub found_at : List ℕ → PlainNode → Option Pair
found_at rest n = let parts = part n.prefix rest in found parts.1 parts.2 n.leaf (seek parts.2 n.under)

pub found_onward_at : (rest : List ℕ) (n : PlainNode) (l : List ℕ) → rest_past n.prefix rest ≡ Some l → found_at rest n ≡ seek_plain l (below n)
found_onward_at rest n l e = let parts = part n.prefix rest in found_onward parts.1 parts.2 n.leaf n.under l e

pub found_parted_at : (rest : List ℕ) (n : PlainNode) → rest_past n.prefix rest ≡ None → found_at rest n ≡ None
found_parted_at rest n e = let parts = part n.prefix rest in found_parted parts.1 parts.2 n.leaf (seek parts.2 n.under) e

module _ (x : ℕ) (k : List ℕ) where
  seek_by : (n : PlainNode) (later : Nodes) (o : Ordering) → first_order (x ∷ []) n.prefix ≡ o → seek (x ∷ k) (first_node n later) ≡ entries.by_order o None (found_at (x ∷ k) n) (seek (x ∷ k) later)
  seek_by n later o e = ap (λ z. entries.by_order z None (found_at (x ∷ k) n) (seek (x ∷ k) later)) (turn x k n o e)

  seek_front : (front back : List PlainNode) (n : PlainNode) → Before x front → first_order (x ∷ []) n.prefix ≡ Equal → seek (x ∷ k) (nodes_in (front ++ n ∷ back)) ≡ found_at (x ∷ k) n
  seek_front [] back n b e = seek_by n (nodes_in back) Equal e
  seek_front (m ∷ front) back n b e = seek_by m (nodes_in (front ++ n ∷ back)) Greater b.0 ∙ seek_front front back n b.1 e

  seek_gap : (front back : List PlainNode) → Before x front → After x back → seek (x ∷ k) (nodes_in (front ++ back)) ≡ None
  seek_gap [] [] b a = refl
  seek_gap [] (n ∷ back) b a = seek_by n (nodes_in back) Less a
  seek_gap (m ∷ front) back b a = seek_by m (nodes_in (front ++ back)) Greater b.0 ∙ seek_gap front back b.1 a

  pub seek_at_place : (es : List PlainNode) (at : ℕ) (n : PlainNode) → place_of x es ≡ Ok at → slice_get es at ≡ Some n → seek (x ∷ k) (nodes_in es) ≡ found_at (x ∷ k) n
  seek_at_place es at n e there =
      let s = standing x es at e in
      let same : s.child ≡ n = cc (standing_child x es at s) in
      ap (λ (z : List PlainNode). seek (x ∷ k) (nodes_in z)) s.whole
      ∙ seek_front s.front s.back s.child s.before s.equal
      ∙ ap (found_at (x ∷ k)) same

  pub seek_at_gap : (es : List PlainNode) (at : ℕ) → place_of x es ≡ Err at → seek (x ∷ k) (nodes_in es) ≡ None
  seek_at_gap es at e =
      let s = gap x es at e in
      ap (λ (z : List PlainNode). seek (x ∷ k) (nodes_in z)) s.whole
      ∙ seek_gap s.front s.back s.before s.after

-- ---- deletes

remove_is : (target : Target) (x : ℕ) (k : List ℕ) → IsEditAt x k (remove target (x ∷ k)) (λ n later. let parts = part n.prefix (x ∷ k) in cut target parts.1 parts.2 n.prefix n.leaf n.under (remove target parts.2 n.under) later)
remove_is target x k = record { none = refl; step = λ n later. refl }

settled_list : (prefix : List ℕ) (leaf : Option Pair) (under : Nodes) (later : List PlainNode) → settled prefix leaf under (nodes_in later) ≡ nodes_in (option_to_list (settled_node prefix leaf under) ++ later)
settled_list prefix (Some pair) under later = refl
settled_list prefix None no_nodes later = refl
settled_list prefix None (node q leaf under no_nodes) later = refl
settled_list prefix None (node q leaf under (node r leaf_2 under_2 rest)) later = refl

cut_onward : (target : Target) (p k prefix : List ℕ) (leaf : Option Pair) (under later : Nodes) (l : List ℕ) → left_of p k ≡ Some l → cut target p k prefix leaf under (remove target k under) later ≡ (let t = remove_plain target l (record { leaf = leaf; nodes = under }) in settled prefix t.leaf t.nodes later)
cut_onward target [] [] prefix leaf under later l e = let same : l ≡ [] = cc in ap (λ (z : List ℕ). let t = remove_plain target z (record { leaf = leaf; nodes = under }) in settled prefix t.leaf t.nodes later) (sym same)
cut_onward target [] (x ∷ k) prefix leaf under later l e = let same : l ≡ x ∷ k = cc in ap (λ (z : List ℕ). let t = remove_plain target z (record { leaf = leaf; nodes = under }) in settled prefix t.leaf t.nodes later) (sym same)
cut_onward target (y ∷ p) k prefix leaf under later l e = cc

cut_covered : (p k prefix : List ℕ) (leaf : Option Pair) (under below later : Nodes) → left_of p k ≡ None → k ≡ [] → cut Prefix p k prefix leaf under below later ≡ later
cut_covered [] k prefix leaf under below later e ended = cc
cut_covered (y ∷ p) [] prefix leaf under below later e ended = refl
cut_covered (y ∷ p) (x ∷ k) prefix leaf under below later e ended = cc

-- a prefix of keys has more to come
abbrev pub GoesOn : Target → List ℕ → Type 0
GoesOn Key k = Unit {0}
GoesOn Prefix k = k ≢ []

cut_parted : (target : Target) (p k prefix : List ℕ) (leaf : Option Pair) (under below later : Nodes) → left_of p k ≡ None → GoesOn target k → cut target p k prefix leaf under below later ≡ node prefix leaf under later
cut_parted target [] k prefix leaf under below later e some = cc
cut_parted Key (y ∷ p) [] prefix leaf under below later e some = refl
cut_parted Prefix (y ∷ p) [] prefix leaf under below later e some = absurd (some refl)
cut_parted target (y ∷ p) (x ∷ k) prefix leaf under below later e some = refl

module _ (x : ℕ) (k : List ℕ) (es : List PlainNode) (at : ℕ) (n : PlainNode) (e : place_of x es ≡ Ok at) (there : slice_get es at ≡ Some n) where
  settles : (prefix : List ℕ) (leaf : Option Pair) (under : Nodes) → before_nodes (take at es) (settled prefix leaf under (nodes_in (drop (at + 1) es))) ≡ nodes_in (take at es ++ (option_to_list (settled_node prefix leaf under) ++ drop (at + 1) es))
  settles prefix leaf under = ap (before_nodes (take at es)) (settled_list prefix leaf under (drop (at + 1) es)) ∙ nodes_joined (take at es) (option_to_list (settled_node prefix leaf under) ++ drop (at + 1) es)

  -- the rest goes on below the node
  pub remove_at_place : (target : Target) (l : List ℕ) → rest_past n.prefix (x ∷ k) ≡ Some l → remove target (x ∷ k) (nodes_in es) ≡ (let t = remove_plain target l (below n) in nodes_in (take at es ++ (option_to_list (settled_node n.prefix t.leaf t.nodes) ++ drop (at + 1) es)))
  remove_at_place target l rest =
      let parts = part n.prefix (x ∷ k) in
      let t = remove_plain target l (below n) in
      edit_at_place x k _ _ (remove_is target x k) es at n e there
      ∙ ap (before_nodes (take at es)) (cut_onward target parts.1 parts.2 n.prefix n.leaf n.under (nodes_in (drop (at + 1) es)) l rest)
      ∙ settles n.prefix t.leaf t.nodes

  -- the prefix of keys ends within the node's
  pub remove_covered : rest_past n.prefix (x ∷ k) ≡ None → (part n.prefix (x ∷ k)).2 ≡ [] → remove Prefix (x ∷ k) (nodes_in es) ≡ nodes_in (take at es ++ drop (at + 1) es)
  remove_covered none ended =
      let parts = part n.prefix (x ∷ k) in
      edit_at_place x k _ _ (remove_is Prefix x k) es at n e there
      ∙ ap (before_nodes (take at es)) (cut_covered parts.1 parts.2 n.prefix n.leaf n.under (remove Prefix parts.2 n.under) (nodes_in (drop (at + 1) es)) none ended)
      ∙ nodes_joined (take at es) (drop (at + 1) es)

  -- the two part
  pub remove_parted : (target : Target) → rest_past n.prefix (x ∷ k) ≡ None → GoesOn target (part n.prefix (x ∷ k)).2 → remove target (x ∷ k) (nodes_in es) ≡ nodes_in es
  remove_parted target none some =
      let parts = part n.prefix (x ∷ k) in
      let s = standing x es at e in
      let same : s.child ≡ n = cc (standing_child x es at s) in
      edit_at_place x k _ _ (remove_is target x k) es at n e there
      ∙ ap (before_nodes (take at es)) (cut_parted target parts.1 parts.2 n.prefix n.leaf n.under (remove target parts.2 n.under) (nodes_in (drop (at + 1) es)) none some)
      ∙ nodes_joined (take at es) (n ∷ drop (at + 1) es)
      ∙ (λ i. nodes_in (standing_front x es at s i ++ sym same i ∷ standing_back x es at s i))
      ∙ ap nodes_in (sym s.whole)

pub remove_at_gap : (target : Target) (x : ℕ) (k : List ℕ) (es : List PlainNode) (at : ℕ) → place_of x es ≡ Err at → remove target (x ∷ k) (nodes_in es) ≡ nodes_in es
remove_at_gap target x k es at e = edit_at_gap x k _ _ (remove_is target x k) es at e
