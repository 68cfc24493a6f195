-- The edges before and past the place of a label lead to the nodes of lower and of higher bytes.
use Rattle.std.proofs.Common.{◌≡◌, ◌<◌, ◌≤◌, ◌+◌, ◌∷◌, ◌∙◌, ℕ, suc, List, [], length, map, take, drop, Result, Ok, Err, refl, sym, ap, subst, arith, Less, Equal, Greater}
use Rattle.std.proofs.lemmas.List.{drop-map, take-map, length-map}
use Rattle.std.specs.List.Sorted.{IsSearchInRange}
use Rattle.std.specs.FinMap.Entries as entries
use Rattle.radix_node.specs.Edges.{place_of, further_by}
use Rattle.radix_node.specs.Node.{PlainNode, nodes_in, edge_node}
use Rattle.radix_node.specs.Nodes.{Nodes, node, first_order}
use Rattle.radix_node.specs.declared.edge.Edge.{Edge}
use Rattle.radix_node.proofs.EdgeSearch.{place_in_range}
use Rattle.radix_iter.specs.inner.Beside.{higher, lower}

-- the first place past the lower labels and the label itself
abbrev past : Result ℕ ℕ → ℕ
past (Ok at) = at + 1
past (Err at) = at

-- how many labels are lower
abbrev before : Result ℕ ℕ → ℕ
before (Ok at) = at
before (Err at) = at

drop_further : (n : PlainNode) (ns : List PlainNode) (r : Result ℕ ℕ) → drop (past (further_by 1 r)) (n ∷ ns) ≡ drop (past r) ns
drop_further n ns (Ok at) = ap (λ i. drop i (n ∷ ns)) (let e : (1 + at) + 1 ≡ suc (at + 1) = omega arith in e)
drop_further n ns (Err at) = ap (λ i. drop i (n ∷ ns)) (let e : 1 + at ≡ suc at = omega arith in e)

take_further : (n : PlainNode) (ns : List PlainNode) (r : Result ℕ ℕ) → take (before (further_by 1 r)) (n ∷ ns) ≡ n ∷ take (before r) ns
take_further n ns (Ok at) = ap (λ i. take i (n ∷ ns)) (let e : 1 + at ≡ suc at = omega arith in e)
take_further n ns (Err at) = ap (λ i. take i (n ∷ ns)) (let e : 1 + at ≡ suc at = omega arith in e)

module _ (b : ℕ) where
  higher_place : (ns : List PlainNode) → nodes_in (drop (past (place_of b ns)) ns) ≡ higher b (nodes_in ns)
  higher_place [] = refl
  higher_place (n ∷ ns) =
      let r = place_of b ns in
      elim (first_order (b ∷ []) n.prefix) as (λ o. nodes_in (drop (past (entries.by_order o (Err 0) (Ok 0) (further_by 1 r))) (n ∷ ns)) ≡ entries.by_order o (nodes_in (n ∷ ns)) (nodes_in ns) (higher b (nodes_in ns))) [
        | Less ↦ refl
        | Equal ↦ refl
        | Greater ↦ ap nodes_in (drop_further n ns r) ∙ higher_place ns
      ]

  lower_place : (ns : List PlainNode) → nodes_in (take (before (place_of b ns)) ns) ≡ lower b (nodes_in ns)
  lower_place [] = refl
  lower_place (n ∷ ns) =
      let r = place_of b ns in
      elim (first_order (b ∷ []) n.prefix) as (λ o. nodes_in (take (before (entries.by_order o (Err 0) (Ok 0) (further_by 1 r))) (n ∷ ns)) ≡ entries.by_order o (nodes_in []) (nodes_in []) (node n.prefix n.leaf n.under (lower b (nodes_in ns)))) [
        | Less ↦ refl
        | Equal ↦ refl
        | Greater ↦ ap nodes_in (take_further n ns r) ∙ ap (λ (m : Nodes). node n.prefix n.leaf n.under m) (lower_place ns)
      ]

  module _ (es : List Edge) (ns : List PlainNode) (is : map edge_node es ≡ ns) where
    -- a place that was found, and one where the label would go
    pub found_within : (at : ℕ) → Ok at ≡ place_of b ns → at < length es
    found_within at e =
        let within : at < length ns = subst (λ r. IsSearchInRange r (length ns)) (sym e) (place_in_range b ns) in
        omega (arith, within, length-map es edge_node, ap length is)

    pub gap_within : (at : ℕ) → Err at ≡ place_of b ns → at ≤ length es
    gap_within at e =
        let within : at ≤ length ns = subst (λ r. IsSearchInRange r (length ns)) (sym e) (place_in_range b ns) in
        omega (arith, within, length-map es edge_node, ap length is)

    module _ (under : Nodes) (all : nodes_in ns ≡ under) (r : Result ℕ ℕ) (place : r ≡ place_of b ns) (some : List Edge) where
      pub edges_past : some ≡ drop (past r) es → nodes_in (map edge_node some) ≡ higher b under
      edges_past e =
          ap (λ (z : List Edge). nodes_in (map edge_node z)) e ∙ ap nodes_in (sym (drop-map edge_node (past r) es))
          ∙ (λ i. nodes_in (drop (past (place i)) (is i))) ∙ higher_place ns ∙ ap (higher b) all

      pub edges_before : some ≡ take (before r) es → nodes_in (map edge_node some) ≡ lower b under
      edges_before e =
          ap (λ (z : List Edge). nodes_in (map edge_node z)) e ∙ ap nodes_in (sym (take-map edge_node (before r) es))
          ∙ (λ i. nodes_in (take (before (place i)) (is i))) ∙ lower_place ns ∙ ap (lower b) all
