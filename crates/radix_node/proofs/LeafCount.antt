-- The leaves at and under a node, counted edge by edge.
use Rattle.std.proofs.Common.{◌≡◌, ◌<◌, ◌+◌, ◌-◌, ◌^◌, ◌++◌, ◌∷◌, ◌∙◌, ℕ, Bool, suc, List, length, map, drop, get_or, min, Option, Some, None, is_some, option_map, refl, sym, ap, arith, length-append}
use Rattle.std.proofs.Math.Nat.{min-eq_left}
use Rattle.std.proofs.Math.Seq.{drop-cons}
use mir.Val.{bool_byte}
use Rattle.std.specs.Global.{Global}
use Rattle.std.specs.declared.sync.Arc.{Arc}
use Rattle.mdb_datum.specs.Row.{Pair}
use Rattle.radix_node.specs.Nodes.{Nodes, pairs_of_leaf, pairs_of_nodes, pairs_of}
use Rattle.radix_node.specs.Node.{PlainNode, leaf_pair, nodes_in, below, below_prefix, edge_node, plain_edge, plain_node}
use Rattle.radix_node.specs.declared.leaf.Leaf.{Leaf}
use Rattle.radix_node.specs.declared.edge.Edge.{Edge}
use Rattle.radix_node.specs.declared.edges.Edges.{out-Edges}
use Rattle.radix_node.specs.declared.node.Node.{Node, out-Node}
use Rattle.radix_node.proofs.Levels.{edges_out, out_leaf, out_under}

-- a truth value as a number counts the own leaf
own_counted : (o : Option (Arc Leaf Global)) → bool_byte (is_some o) ≡ length (pairs_of_leaf (option_map leaf_pair o))
own_counted None = refl
own_counted (Some a) = refl

pub own_count : (n : Node) (b : Bool) (k : ℕ) → k ≡ bool_byte b → b ≡ is_some (out-Node n).leaf → k ≡ length (pairs_of_leaf (plain_node n).leaf)
own_count n b k counted is = counted ∙ ap bool_byte is ∙ own_counted (out-Node n).leaf ∙ ap (λ (leaf : Option Pair). length (pairs_of_leaf leaf)) (out_leaf n)

-- the leaves under edges
abbrev pub count_under : List Edge → ℕ
count_under es = length (pairs_of_nodes (nodes_in (map edge_node es)))

-- before the first edge the own leaf is counted
pub count_begins : (n : Node) (items : List Edge) (own : ℕ) → items ≡ (out-Edges (out-Node n).edges).edges.items → own ≡ length (pairs_of_leaf (plain_node n).leaf) → own + count_under items ≡ length (pairs_of (below_prefix n))
count_begins n items own is counted =
    let all : (plain_node n).under ≡ nodes_in (map edge_node items) = sym (out_under n) ∙ ap nodes_in (edges_out (out-Node n).edges ∙ ap (map edge_node) (sym is)) in
    omega (arith, counted, ap (λ (ns : Nodes). length (pairs_of_nodes ns)) all, length-append (pairs_of_leaf (plain_node n).leaf) (pairs_of_nodes (plain_node n).under))

module _ (es : List Edge) (i : ℕ) (e : Edge) (child : Node) (k : ℕ) (lt : i < length es) (read : e ≡ get_or es i e) (same : plain_node child ≡ (plain_edge e).node) (counted : k ≡ length (pairs_of (below_prefix child))) where
  one_edge : count_under (drop i es) ≡ k + count_under (drop (suc i) es)
  one_edge =
      let m = (plain_edge e).node in
      let rest = pairs_of_nodes (nodes_in (map edge_node (drop (suc i) es))) in
      let here : drop i es ≡ e ∷ drop (suc i) es = drop-cons es i e lt ∙ ap (λ (z : Edge). z ∷ drop (suc i) es) (sym read) in
      omega (arith, counted, ap count_under here, ap (λ (z : PlainNode). length (pairs_of (below z))) same, length-append (pairs_of_leaf m.leaf) (pairs_of_nodes m.under), length-append (pairs_of_leaf m.leaf) (pairs_of_nodes m.under ++ rest), length-append (pairs_of_nodes m.under) rest)

  -- one edge more
  pub count_more : (count all : ℕ) → count + count_under (drop i es) ≡ all → count + k + count_under (drop (i + 1) es) ≡ all
  count_more count all so_far = let e : suc i ≡ i + 1 = omega arith in omega (arith, so_far, one_edge, ap (λ j. count_under (drop j es)) e)

-- the same where each count is known if fewer than 2 ^ 64 leaves are counted
module _ (es : List Edge) (i : ℕ) (e : Edge) (child : Node) (k : ℕ) (lt : i < length es) (read : e ≡ get_or es i e) (same : plain_node child ≡ (plain_edge e).node) (counted : length (pairs_of (below_prefix child)) < 2 ^ 64 → k ≡ length (pairs_of (below_prefix child))) where
  pub count_more_few : (count new all : ℕ) → new ≡ min (count + k) (2 ^ 64 - 1) → (all < 2 ^ 64 → count + count_under (drop i es) ≡ all) → all < 2 ^ 64 → new + count_under (drop (i + 1) es) ≡ all
  count_more_few count new all is so_far few =
      let n = length (pairs_of (below_prefix child)) in
      let whole : count + n + count_under (drop (i + 1) es) ≡ all = count_more es i e child n lt read same refl count all (so_far few) in
      let exact : k ≡ n = counted (omega (arith, whole, few)) in
      let sum : new ≡ count + k = is ∙ min-eq_left (omega (arith, whole, few, exact)) in
      omega (arith, whole, exact, sum)
