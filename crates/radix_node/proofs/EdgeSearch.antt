-- Where an edge stands among edges that rise by first byte.
use Rattle.std.proofs.Common.{◌≡◌, ◌<◌, ◌≤◌, ◌+◌, ◌∷◌, ◌∙◌, ℕ, zero, suc, List, [], length, map, get_or, slice_get, vec_len, Option, Some, None, Result, Ok, Err, refl, sym, ap, subst, arith, Ordering, Less, Equal, Greater}
use Rattle.std.proofs.lemmas.List.{get_or-map, length-map}
use Rattle.std.specs.List.Sorted.{IsSearchInRange, IsBinarySearchResult, IsNonDecreasingBy}
use Rattle.std.specs.Ordering.{nat_cmp, ordering_index}
use Rattle.std.specs.FinMap.Entries as entries
use Rattle.radix_node.specs.Nodes.{Nodes, no_nodes, node, first_order}
use Rattle.radix_node.specs.Shape.{FirstBytes, IsShaped}
use Rattle.radix_node.specs.Edges.{EdgesRise, place_of, further_by}
use Rattle.radix_node.specs.Node.{PlainEdge, PlainNode, nodes_in, edges_of, edge_node, edge_of, labelled}
use Rattle.radix_node.specs.Siblings.{nodes_list}
use Rattle.radix_node.specs.declared.edge.Edge.{Edge}
use Rattle.radix_node.specs.declared.edges.Edges.{Edges, out-Edges}
use Rattle.radix_node.proofs.ByteCompare.{what_less, what_equal, what_greater, less_from, equal_from, greater_from}
use Rattle.radix_node.proofs.ListPlaces.{at_place, at_further, there, past}
use Rattle.radix_node.proofs.Levels.{edges_out, nodes_list_in}

-- the edges of a shaped tree rise
pub rise_from_shape : (path : List ℕ) (ns : Nodes) → IsShaped path ns → EdgesRise ns
rise_from_shape path no_nodes s = tt
rise_from_shape path (node [] leaf under later) s = absurd s
rise_from_shape path (node (b ∷ p) leaf under later) s = (s.apart, rise_from_shape path later s.later)

-- ---- what is at a place tells the place

module _ (b : ℕ) where
  -- the order of a node's first byte and the byte that is looked for
  abbrev pub against : PlainNode → Ordering
  against n = first_order n.prefix (b ∷ [])

  -- a node at a place begins with a byte of which P holds
  first_at : (P : ℕ → Type 0) (ns : Nodes) (i : ℕ) (d : PlainNode) → FirstBytes P ns → i < length (nodes_list ns) → (c : ℕ) × P c × (against (get_or (nodes_list ns) i d) ≡ nat_cmp c b)
  first_at P no_nodes i d h lt = absurd (omega arith)
  first_at P (node [] leaf under later) i d h lt = absurd h
  first_at P (node (c ∷ p) leaf under later) zero d h lt = (c, h.0, refl)
  first_at P (node (c ∷ p) leaf under later) (suc i) d h lt = first_at P later i d h.1 (omega arith)

  pub place_there : (ns : Nodes) (at : ℕ) → EdgesRise ns → at < length (nodes_list ns) → ((d : PlainNode) → against (get_or (nodes_list ns) at d) ≡ Equal) → (d : PlainNode) → Ok at ≡ place_of b (nodes_list ns)
  place_there no_nodes at h lt is d = absurd (omega arith)
  place_there (node [] leaf under later) at h lt is d = absurd h
  place_there (node (c ∷ p) leaf under later) zero h lt is d =
      sym (ap (λ o. entries.by_order o (Err 0) (Ok 0) (further_by 1 (place_of b (nodes_list later)))) (equal_from b c (sym (what_equal c b (is d)))))
  place_there (node (c ∷ p) leaf under later) (suc i) h lt is d =
      let first = first_at (λ z. c < z) later i d h.0 (omega arith) in
      let same : first.0 ≡ b = what_equal first.0 b (sym first.2 ∙ is d) in
      let low : c < first.0 = first.1 in
      let e : suc i ≡ 1 + i = omega arith in
      ap Ok e ∙ ap (further_by 1) (place_there later i h.1 (omega arith) is d)
      ∙ sym (ap (λ o. entries.by_order o (Err 0) (Ok 0) (further_by 1 (place_of b (nodes_list later)))) (greater_from b c (omega arith)))

  pub place_not_there : (ns : Nodes) (at : ℕ) → EdgesRise ns → at ≤ length (nodes_list ns) → ((i : ℕ) (d : PlainNode) → i < at → against (get_or (nodes_list ns) i d) ≡ Less) → ((i : ℕ) (d : PlainNode) → at ≤ i → i < length (nodes_list ns) → against (get_or (nodes_list ns) i d) ≡ Greater) → (d : PlainNode) → Err at ≡ place_of b (nodes_list ns)
  place_not_there no_nodes at h le lower higher d = ap Err (omega arith)
  place_not_there (node [] leaf under later) at h le lower higher d = absurd h
  place_not_there (node (c ∷ p) leaf under later) zero h le lower higher d =
      sym (ap (λ o. entries.by_order o (Err 0) (Ok 0) (further_by 1 (place_of b (nodes_list later)))) (less_from b c (what_greater c b (higher 0 d (omega arith) (omega arith)))))
  place_not_there (node (c ∷ p) leaf under later) (suc i) h le lower higher d =
      let e : suc i ≡ 1 + i = omega arith in
      ap Err e ∙ ap (further_by 1) (place_not_there later i h.1 (omega arith) (λ j f lt. lower (suc j) f (omega arith)) (λ j f ge lt. higher (suc j) f (omega arith) (omega arith)) d)
      ∙ sym (ap (λ o. entries.by_order o (Err 0) (Ok 0) (further_by 1 (place_of b (nodes_list later)))) (greater_from b c (what_less c b (lower 0 d (omega arith)))))

  -- ---- the comparisons rise along the edges

  index_rises : (x y : ℕ) → x < y → ordering_index (nat_cmp x b) ≤ ordering_index (nat_cmp y b)
  index_rises x y lt = elim (nat_cmp x b) as (λ o. nat_cmp x b ≡ o → ordering_index o ≤ ordering_index (nat_cmp y b)) [
    | Less ↦ λ o. omega arith
    | Equal ↦ λ o. let same = what_equal x b o in rw (greater_from y b (omega arith)) (omega arith)
    | Greater ↦ λ o. let high = what_greater x b o in rw (greater_from y b (omega arith)) (omega arith)
  ] refl

  rises : (ns : Nodes) → EdgesRise ns → (i j : ℕ) (d : PlainNode) → i ≤ j → j < length (nodes_list ns) → ordering_index (against (get_or (nodes_list ns) i d)) ≤ ordering_index (against (get_or (nodes_list ns) j d))
  rises no_nodes h i j d le lt = absurd (omega arith)
  rises (node [] leaf under later) h i j d le lt = absurd h
  rises (node (c ∷ p) leaf under later) h zero zero d le lt = omega arith
  rises (node (c ∷ p) leaf under later) h zero (suc j) d le lt =
      let first = first_at (λ z. c < z) later j d h.0 (omega arith) in
      rw first.2 (index_rises c first.0 first.1)
  rises (node (c ∷ p) leaf under later) h (suc i) zero d le lt = absurd (omega arith)
  rises (node (c ∷ p) leaf under later) h (suc i) (suc j) d le lt = rises later h.1 i j d (omega arith) (omega arith)

  -- ---- in memory

  abbrev pub compared : Edge → Ordering
  compared e = against (edge_node e)

  -- what holds of the node in memory at a place
  held_at : (o : Ordering) (es : List Edge) (i : ℕ) (d : PlainNode) → i < length es → ((e : Edge) → compared (get_or es i e) ≡ o) → against (get_or (map edge_node es) i d) ≡ o
  held_at o [] i d lt h = absurd (omega arith)
  held_at o (e ∷ es) zero d lt h = h e
  held_at o (e ∷ es) (suc i) d lt h = held_at o es i d (omega arith) h

  comparisons_rise : (es : List Edge) → EdgesRise (nodes_in (map edge_node es)) → IsNonDecreasingBy (λ e. ordering_index (compared e)) es
  comparisons_rise es h i j d le lt =
      let known : ordering_index (against (get_or (map edge_node es) i (edge_node d))) ≤ ordering_index (against (get_or (map edge_node es) j (edge_node d))) =
      subst (λ (ns : List PlainNode). ordering_index (against (get_or ns i (edge_node d))) ≤ ordering_index (against (get_or ns j (edge_node d)))) (nodes_list_in (map edge_node es))
      (rises (nodes_in (map edge_node es)) h i j (edge_node d) le (rw nodes_list_in (rw length-map lt))) in
      let first = get_or-map edge_node es i d (edge_node d) (omega arith) in
      let second = get_or-map edge_node es j d (edge_node d) lt in
      subst (λ (n : PlainNode). ordering_index (against n) ≤ ordering_index (compared (get_or es j d))) first
      (subst (λ (n : PlainNode). ordering_index (against (get_or (map edge_node es) i (edge_node d))) ≤ ordering_index (against n)) second known)

  some_node : PlainNode
  some_node = record { prefix = []; leaf = None; under = no_nodes }

  -- what a binary search finds is the place
  pub searched : (es : List Edge) (r : Result ℕ ℕ) → EdgesRise (nodes_in (map edge_node es)) → IsSearchInRange r (length es) → IsBinarySearchResult compared es r → r ≡ place_of b (map edge_node es)
  searched es (Ok at) h within equal =
      subst (λ (ns : List PlainNode). Ok at ≡ place_of b ns) (nodes_list_in (map edge_node es))
      (place_there (nodes_in (map edge_node es)) at h (rw nodes_list_in (rw length-map within)) (λ d. rw nodes_list_in (held_at Equal es at d within equal)) some_node)
  searched es (Err at) h within parted =
      let parts = parted (comparisons_rise es h) in
      subst (λ (ns : List PlainNode). Err at ≡ place_of b ns) (nodes_list_in (map edge_node es))
      (place_not_there (nodes_in (map edge_node es)) at h (rw nodes_list_in (rw length-map within))
      (λ i d lt. rw nodes_list_in (held_at Less es i d (omega arith) (λ e. parts.0 i e (omega arith) lt)))
      (λ i d ge lt. let short : i < length es = rw length-map at (rw nodes_list_in at lt) in rw nodes_list_in (held_at Greater es i d short (λ e. parts.1 i e ge short)))
      some_node)

  -- ---- what stands at the place

  -- the node at a place that was found
  pub edge_at : (ns : List PlainNode) → at_place PlainNode (place_of b ns) ns ≡ edge_of b (nodes_in ns)
  edge_at [] = refl
  edge_at (n ∷ ns) = elim (first_order (b ∷ []) n.prefix) as (λ o. at_place PlainNode (entries.by_order o (Err 0) (Ok 0) (further_by 1 (place_of b ns))) (n ∷ ns) ≡ entries.by_order o None (Some n) (edge_of b (nodes_in ns))) [
    | Less ↦ refl
    | Equal ↦ refl
    | Greater ↦ at_further PlainNode (place_of b ns) n ns ∙ edge_at ns
  ]

-- ---- of edges and nodes in memory

pub place_found : (b : ℕ) (e : Edges) (items : List Edge) (r : Result ℕ ℕ) → items ≡ (out-Edges e).edges.items → EdgesRise (nodes_in (edges_of e)) → IsSearchInRange r (length items) → IsBinarySearchResult (compared b) items r → r ≡ place_of b (edges_of e)
place_found b e items r is rising within found =
    let to : edges_of e ≡ map edge_node items = edges_out e ∙ ap (map edge_node) (sym is) in
    searched b items r (subst (λ (ns : List PlainNode). EdgesRise (nodes_in ns)) to rising) within found ∙ ap (place_of b) (sym to)

pub get_there : (e : Edges) (at : ℕ) (r : Edge) → at < vec_len (out-Edges e).edges → r ≡ get_or (out-Edges e).edges.items at r → Some (edge_node r) ≡ slice_get (edges_of e) at
get_there e at r lt read = there PlainNode edge_node e (edges_of e) (edges_out e) at r lt read

pub get_past : (e : Edges) (at : ℕ) → vec_len (out-Edges e).edges ≤ at → None ≡ slice_get (edges_of e) at
get_past e at le = past PlainNode edge_node e (edges_of e) (edges_out e) at le

-- ---- the place is in range

further_in_range : (r : Result ℕ ℕ) (k : ℕ) → IsSearchInRange r k → IsSearchInRange (further_by 1 r) (suc k)
further_in_range (Ok i) k h = omega arith
further_in_range (Err i) k h = omega arith

pub place_in_range : (b : ℕ) (ns : List PlainNode) → IsSearchInRange (place_of b ns) (length ns)
place_in_range b [] = omega arith
place_in_range b (n ∷ ns) = elim (first_order (b ∷ []) n.prefix) as (λ o. IsSearchInRange (entries.by_order o (Err 0) (Ok 0) (further_by 1 (place_of b ns))) (length (n ∷ ns))) [
  | Less ↦ omega arith
  | Equal ↦ omega arith
  | Greater ↦ further_in_range (place_of b ns) (length ns) (place_in_range b ns)
]

pub length_edges : (e : Edges) → vec_len (out-Edges e).edges ≡ length (edges_of e)
length_edges e = (out-Edges e).edges.ok.0 ∙ sym (length-map (out-Edges e).edges.items edge_node) ∙ sym (ap length (edges_out e))

pub in_range : (b : ℕ) (e : Edges) (r : Result ℕ ℕ) → r ≡ place_of b (edges_of e) → IsSearchInRange r (vec_len (out-Edges e).edges)
in_range b e r is = subst (λ z. IsSearchInRange z (vec_len (out-Edges e).edges)) (sym is) (subst (λ z. IsSearchInRange (place_of b (edges_of e)) z) (sym (length_edges e)) (place_in_range b (edges_of e)))

-- ---- the edge of a label

-- the node at the edge of a byte has that byte in front
pub edge_first : (b : ℕ) (ns : Nodes) (m : PlainNode) → edge_of b ns ≡ Some m → (p : List ℕ) × (m.prefix ≡ b ∷ p)
edge_first b no_nodes m e = cc
edge_first b (node [] leaf under later) m e = edge_first b later m e
edge_first b (node (c ∷ p) leaf under later) m e =
    elim (nat_cmp b c) as (λ o. nat_cmp b c ≡ o → entries.by_order o None (Some (record { prefix = c ∷ p; leaf = leaf; under = under })) (edge_of b later) ≡ Some m → (q : List ℕ) × (m.prefix ≡ b ∷ q)) [
      | Less ↦ λ o f. cc
      | Equal ↦ λ o f.
          let same : m ≡ record { prefix = c ∷ p; leaf = leaf; under = under } = cc in
          (p, ap (λ (n : PlainNode). n.prefix) same ∙ ap (λ (z : ℕ). z ∷ p) (sym (what_equal b c o)))
      | Greater ↦ λ o f. edge_first b later m f
    ] refl e

-- what is at a place that was found
pub edge_at_place : (b : ℕ) (under : Nodes) (es : List PlainNode) (at : ℕ) (m : PlainNode) → nodes_in es ≡ under → slice_get es at ≡ Some m → Ok at ≡ place_of b es → Some m ≡ edge_of b under
edge_at_place b under es at m is there found = sym there ∙ ap (λ r. at_place PlainNode r es) found ∙ edge_at b es ∙ ap (edge_of b) is

pub edge_at_gap : (b : ℕ) (under : Nodes) (es : List PlainNode) (at : ℕ) → nodes_in es ≡ under → Err at ≡ place_of b es → None ≡ edge_of b under
edge_at_gap b under es at is gap = ap (λ r. at_place PlainNode r es) gap ∙ edge_at b es ∙ ap (edge_of b) is

-- its label is the byte
pub edge_label : (b : ℕ) (under : Nodes) (e : PlainEdge) → Some (labelled e) ≡ edge_of b under → e.label ≡ b
edge_label b under e is = let first = edge_first b under (labelled e) (sym is) in let heads : e.label ∷ e.node.prefix ≡ b ∷ first.0 = first.1 in cc

pub child_found : (b : ℕ) (under : Nodes) (e : PlainEdge) → Some (labelled e) ≡ edge_of b under → Some (labelled (record { label = b; node = e.node })) ≡ edge_of b under
child_found b under e is = ap (λ (z : ℕ). Some (labelled (record { label = z; node = e.node }))) (sym (edge_label b under e is)) ∙ is
