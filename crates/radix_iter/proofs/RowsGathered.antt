-- Rows that are gathered edge by edge.
use Rattle.std.proofs.Common.{◌≡◌, ◌++◌, ◌∷◌, ◌∙◌, List, [], map, refl, sym, ap, append_assoc}
use Rattle.std.specs.Prelude.{reverse}
use Rattle.std.proofs.lemmas.List.{append-nil, map-append, reverse-append}
use Rattle.mdb_datum.specs.Pairs.{rows_of}
use Rattle.mdb_datum.specs.Row.{Fields, Pair}
use Rattle.radix_node.specs.Node.{below, nodes_in, edge_node, plain_edge}
use Rattle.radix_node.specs.Nodes.{pairs_of_leaf, pairs_of_nodes, pairs_of}
use Rattle.radix_node.specs.declared.edge.Edge.{Edge}

-- the rows, the last first
abbrev pub back : List Pair → List Fields
back ps = reverse (rows_of ps)

pub rows_append : (xs ys : List Pair) → rows_of (xs ++ ys) ≡ rows_of xs ++ rows_of ys
rows_append xs ys = map-append (λ (p : Pair). p.1) xs ys

pub back_append : (xs ys : List Pair) → back (xs ++ ys) ≡ back ys ++ back xs
back_append xs ys = ap reverse (rows_append xs ys) ∙ reverse-append (rows_of xs) (rows_of ys)

-- more rows in order, and the last first
pub more : (rows : List Fields) (xs ys : List Pair) → (rows ++ rows_of xs) ++ rows_of ys ≡ rows ++ rows_of (xs ++ ys)
more rows xs ys = append_assoc rows (rows_of xs) (rows_of ys) ∙ ap (λ (z : List Fields). rows ++ z) (sym (rows_append xs ys))

pub more_back : (rows : List Fields) (xs ys : List Pair) → (rows ++ back ys) ++ back xs ≡ rows ++ back (xs ++ ys)
more_back rows xs ys = append_assoc rows (back ys) (back xs) ∙ ap (λ (z : List Fields). rows ++ z) (sym (back_append xs ys))

-- ---- edges

-- the pairs of the nodes that edges lead to and of those under them
abbrev pub pairs_at_edges : List Edge → List Pair
pairs_at_edges es = pairs_of_nodes (nodes_in (map edge_node es))

-- the pairs of one of them
abbrev pub pairs_at_edge : Edge → List Pair
pairs_at_edge e = let n = (plain_edge e).node in pairs_of (below n)

pub pairs_one : (e : Edge) (es : List Edge) → pairs_at_edges (e ∷ es) ≡ pairs_at_edge e ++ pairs_at_edges es
pairs_one e es = let n = (plain_edge e).node in sym (append_assoc (pairs_of_leaf n.leaf) (pairs_of_nodes n.under) (pairs_at_edges es))

pub pairs_more : (es ds : List Edge) → pairs_at_edges (es ++ ds) ≡ pairs_at_edges es ++ pairs_at_edges ds
pairs_more [] ds = refl
pairs_more (e ∷ es) ds =
    pairs_one e (es ++ ds) ∙ ap (λ (z : List Pair). pairs_at_edge e ++ z) (pairs_more es ds)
    ∙ sym (append_assoc (pairs_at_edge e) (pairs_at_edges es) (pairs_at_edges ds))
    ∙ ap (λ (z : List Pair). z ++ pairs_at_edges ds) (sym (pairs_one e es))

pub pairs_last : (es : List Edge) (e : Edge) → pairs_at_edges (es ++ e ∷ []) ≡ pairs_at_edges es ++ pairs_at_edge e
pairs_last es e = pairs_more es (e ∷ []) ∙ ap (λ (z : List Pair). pairs_at_edges es ++ z) (pairs_one e [] ∙ append-nil (pairs_at_edge e))
