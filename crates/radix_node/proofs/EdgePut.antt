-- A node is put among edges that rise by first byte.
use Rattle.std.proofs.Common.{◌≡◌, ◌<◌, ◌+◌, ◌++◌, ◌∷◌, ◌∙◌, ℕ, suc, List, [], map, take, drop, get_or, slice_set, Option, Some, None, Result, Ok, Err, refl, sym, ap, subst, arith, Less, Equal, Greater}
use Rattle.std.specs.Ordering.{nat_cmp}
use Rattle.std.specs.FinMap.Entries as entries
use Rattle.mdb_datum.specs.Row.{Pair}
use Rattle.radix_node.specs.Nodes.{Nodes, node, first_order}
use Rattle.radix_node.specs.Shape.{FirstBytes}
use Rattle.radix_node.specs.Edges.{EdgesRise, place_of, further_by, edge_put}
use Rattle.radix_node.specs.Node.{PlainNode, nodes_in, edges_of, edge_node, edge_of, plain_edge}
use Rattle.radix_node.specs.declared.edges.Edges.{Edges, out-Edges}
use Rattle.radix_node.specs.declared.edge.Edge.{Edge}
use Rattle.radix_node.proofs.ByteCompare.{what_less, what_equal, what_greater}
use Rattle.radix_node.proofs.Levels.{edges_out, first_byte}
use Rattle.radix_node.proofs.ListPlaces.{at_place, put_by, put_further, replaced_at, inserted_at}
use Rattle.radix_node.proofs.EdgeSearch.{edge_at, get_there, in_range}
use Rattle.radix_node.proofs.KeysUnder.{weaken_first}

-- ---- prefixes that are known to begin with a byte

pub first_cons : (P : ℕ → Type 0) (n : PlainNode) (ns : List PlainNode) (c : ℕ) (q : List ℕ) → n.prefix ≡ c ∷ q → P c → FirstBytes P (nodes_in ns) → FirstBytes P (nodes_in (n ∷ ns))
first_cons P n ns c q is here later = let known : FirstBytes P (node (c ∷ q) n.leaf n.under (nodes_in ns)) = (here, later) in subst (λ (z : List ℕ). FirstBytes P (node z n.leaf n.under (nodes_in ns))) (sym is) known

pub rise_cons : (n : PlainNode) (ns : List PlainNode) (c : ℕ) (q : List ℕ) → n.prefix ≡ c ∷ q → FirstBytes (λ z. c < z) (nodes_in ns) → EdgesRise (nodes_in ns) → EdgesRise (nodes_in (n ∷ ns))
rise_cons n ns c q is apart later = let known : EdgesRise (node (c ∷ q) n.leaf n.under (nodes_in ns)) = (apart, later) in subst (λ (z : List ℕ). EdgesRise (node z n.leaf n.under (nodes_in ns))) (sym is) known

record Head (P : ℕ → Type 0) (prefix : List ℕ) (later : Nodes) : Type 0 where
  byte : ℕ
  rest : List ℕ
  is : prefix ≡ byte ∷ rest
  holds : P byte
  after : FirstBytes P later

first_head : (P : ℕ → Type 0) (prefix : List ℕ) (leaf : Option Pair) (under later : Nodes) → FirstBytes P (node prefix leaf under later) → Head P prefix later
first_head P [] leaf under later h = absurd h
first_head P (c ∷ q) leaf under later h = record { byte = c; rest = q; is = refl; holds = h.0; after = h.1 }

record Lowest (prefix : List ℕ) (later : Nodes) : Type 0 where
  byte : ℕ
  rest : List ℕ
  is : prefix ≡ byte ∷ rest
  apart : FirstBytes (λ z. byte < z) later
  after : EdgesRise later

lowest : (prefix : List ℕ) (leaf : Option Pair) (under later : Nodes) → EdgesRise (node prefix leaf under later) → Lowest prefix later
lowest [] leaf under later h = absurd h
lowest (c ∷ q) leaf under later h = record { byte = c; rest = q; is = refl; apart = h.0; after = h.1 }

-- ---- the edges rise after it

module _ (b : ℕ) (p : List ℕ) (n : PlainNode) (is : n.prefix ≡ b ∷ p) where
  first_put : (P : ℕ → Type 0) (ns : List PlainNode) → P b → FirstBytes P (nodes_in ns) → FirstBytes P (nodes_in (edge_put n ns))
  first_put P [] here h = first_cons P n [] b p is here tt
  first_put P (m ∷ ms) here h =
      let head = first_head P m.prefix m.leaf m.under (nodes_in ms) h in
      elim (first_order n.prefix m.prefix) as (λ o. FirstBytes P (nodes_in (entries.by_order o (n ∷ m ∷ ms) (n ∷ ms) (m ∷ edge_put n ms)))) [
        | Less ↦ first_cons P n (m ∷ ms) b p is here h
        | Equal ↦ first_cons P n ms b p is here head.after
        | Greater ↦ first_cons P m (edge_put n ms) head.byte head.rest head.is head.holds (first_put P ms here head.after)
      ]

  pub put_rises : (ns : List PlainNode) → EdgesRise (nodes_in ns) → EdgesRise (nodes_in (edge_put n ns))
  put_rises [] h = rise_cons n [] b p is tt tt
  put_rises (m ∷ ms) h =
      let head = lowest m.prefix m.leaf m.under (nodes_in ms) h in
      let compare : first_order n.prefix m.prefix ≡ nat_cmp b head.byte = λ i. first_order (is i) (head.is i) in
      elim (first_order n.prefix m.prefix) as (λ o. o ≡ nat_cmp b head.byte → EdgesRise (nodes_in (entries.by_order o (n ∷ m ∷ ms) (n ∷ ms) (m ∷ edge_put n ms)))) [
        | Less ↦ λ o. let lt = what_less b head.byte (sym o) in
            rise_cons n (m ∷ ms) b p is (first_cons (λ z. b < z) m ms head.byte head.rest head.is lt (weaken_first (λ z. head.byte < z) (λ z. b < z) (λ z g. omega arith) (nodes_in ms) head.apart)) h
        | Equal ↦ λ o. let same = what_equal b head.byte (sym o) in
            rise_cons n ms b p is (subst (λ (z : ℕ). FirstBytes (λ w. z < w) (nodes_in ms)) (sym same) head.apart) head.after
        | Greater ↦ λ o. let lt = what_greater b head.byte (sym o) in
            rise_cons m (edge_put n ms) head.byte head.rest head.is (first_put (λ z. head.byte < z) ms lt head.apart) (put_rises ms head.after)
      ] compare

  -- ---- by the place that was found

  pub put_at_place : (ns : List PlainNode) → edge_put n ns ≡ put_by PlainNode n (place_of b ns) ns
  put_at_place [] = refl
  put_at_place (m ∷ ms) =
      ap (λ o. entries.by_order o (n ∷ m ∷ ms) (n ∷ ms) (m ∷ edge_put n ms)) (ap (λ (z : List ℕ). first_order z m.prefix) is ∙ first_byte b p m.prefix)
      ∙ elim (first_order (b ∷ []) m.prefix) as (λ o. entries.by_order o (n ∷ m ∷ ms) (n ∷ ms) (m ∷ edge_put n ms) ≡ put_by PlainNode n (entries.by_order o (Err 0) (Ok 0) (further_by 1 (place_of b ms))) (m ∷ ms)) [
        | Less ↦ refl
        | Equal ↦ refl
        | Greater ↦ ap (λ (zs : List PlainNode). m ∷ zs) (put_at_place ms) ∙ sym (put_further PlainNode n (place_of b ms) m ms)
      ]

-- ---- in memory

module _ (e : Edges) (edge : Edge) (label : ℕ) (is_label : label ≡ (plain_edge edge).label) where
  abbrev own : List ℕ
  own = let n = (plain_edge edge).node in n.prefix

  starts : (edge_node edge).prefix ≡ label ∷ own
  starts = ap (λ (z : ℕ). z ∷ own) (sym is_label)

  put_placed : (r : Result ℕ ℕ) → r ≡ place_of label (edges_of e) → put_by PlainNode (edge_node edge) r (edges_of e) ≡ edge_put (edge_node edge) (edges_of e)
  put_placed r is = ap (λ z. put_by PlainNode (edge_node edge) z (edges_of e)) is ∙ sym (put_at_place label own (edge_node edge) starts (edges_of e))

  pub replaced : (at : ℕ) (x : Edge) → x ≡ edge → Ok at ≡ place_of label (edges_of e) → map edge_node (slice_set (out-Edges e).edges.items at x) ≡ edge_put (edge_node edge) (edges_of e)
  replaced at x is found = replaced_at PlainNode edge_node e (edges_of e) (edges_out e) at x edge is ∙ put_placed (Ok at) found

  pub inserted : (at : ℕ) (items : List Edge) → items ≡ take at (out-Edges e).edges.items ++ edge ∷ drop at (out-Edges e).edges.items → Err at ≡ place_of label (edges_of e) → map edge_node items ≡ edge_put (edge_node edge) (edges_of e)
  inserted at items is absent = inserted_at PlainNode edge_node e (edges_of e) (edges_out e) at items edge is ∙ put_placed (Err at) absent

  pub still_rise : (ns : List PlainNode) → EdgesRise (nodes_in (edges_of e)) → ns ≡ edge_put (edge_node edge) (edges_of e) → EdgesRise (nodes_in ns)
  still_rise ns rising is = subst (λ (ms : List PlainNode). EdgesRise (nodes_in ms)) (sym is) (put_rises label own (edge_node edge) starts (edges_of e) rising)

  stands : (r : Result ℕ ℕ) → r ≡ place_of label (edges_of e) → at_place PlainNode r (edges_of e) ≡ edge_of (plain_edge edge).label (nodes_in (edges_of e))
  stands r is = ap (λ z. at_place PlainNode z (edges_of e)) is ∙ edge_at label (edges_of e) ∙ ap (λ z. edge_of z (nodes_in (edges_of e))) is_label

  pub old_there : (at : ℕ) (x : Edge) → x ≡ get_or (out-Edges e).edges.items at x → Ok at ≡ place_of label (edges_of e) → Some (edge_node x) ≡ edge_of (plain_edge edge).label (nodes_in (edges_of e))
  old_there at x read found = get_there e at x (in_range label e (Ok at) found) read ∙ stands (Ok at) found

  pub old_none : (at : ℕ) → Err at ≡ place_of label (edges_of e) → None ≡ edge_of (plain_edge edge).label (nodes_in (edges_of e))
  old_none at absent = stands (Err at) absent
