-- Cells that leave with a node, edge by edge.
use Rattle.std.proofs.Common.{◌≡◌, ◌<◌, ◌+◌, ◌++◌, ◌∷◌, ◌∙◌, ℕ, suc, List, [], length, map, drop, get_or, Some, None, refl, sym, ap, arith, append_assoc}
use Rattle.std.proofs.Math.Seq.{drop-cons}
use Rattle.watch_word.specs.Logs.{Cell}
use Rattle.radix_node.specs.CellNode.{cell_edge, cell_node, led_node}
use Rattle.radix_node.specs.Cells.{CellNode, Piece, cells_in, piece_cell, leaf_pieces, node_pieces}
use Rattle.radix_node.specs.Left.{all_cells, leave, leave_all}
use Rattle.radix_node.specs.inner.OwnLeft.{own_left}
use Rattle.radix_node.specs.declared.edge.Edge.{Edge}
use Rattle.radix_node.specs.declared.edges.Edges.{out-Edges}
use Rattle.radix_node.specs.declared.node.Node.{Node, out-Node}
use Rattle.radix_node.proofs.CellLevels.{cell_edges_out, out_cell_under}

pub leave_all_append : (first : ℕ) (xs ys cs : List Cell) → leave_all first (xs ++ ys) cs ≡ leave_all first ys (leave_all first xs cs)
leave_all_append first [] ys cs = refl
leave_all_append first (x ∷ xs) ys cs = leave_all_append first xs ys (leave first x cs)

-- the node and its leaf before the others
own_first : (first : ℕ) (n : CellNode) (cs : List Cell) → leave_all first (all_cells n) cs ≡ leave_all first (map piece_cell (node_pieces n.under)) (own_left first n cs)
own_first first n cs = elim n.leaf as (λ o. leave_all first (map piece_cell (leaf_pieces o ++ node_pieces n.under)) (leave first n.cell cs) ≡ leave_all first (map piece_cell (node_pieces n.under)) (own_left first (record { cell = n.cell; prefix = n.prefix; leaf = o; under = n.under }) cs)) [
  | None ↦ refl
  | Some l ↦ refl
]

-- the cells under edges
abbrev pub cells_under : List Edge → List Cell
cells_under es = map piece_cell (node_pieces (cells_in (map led_node es)))

map_append : (xs ys : List Piece) → map piece_cell (xs ++ ys) ≡ map piece_cell xs ++ map piece_cell ys
map_append [] ys = refl
map_append (x ∷ xs) ys = ap (λ (zs : List Cell). piece_cell x ∷ zs) (map_append xs ys)

under_first : (e : Edge) (es : List Edge) → cells_under (e ∷ es) ≡ all_cells (cell_edge e).node ++ cells_under es
under_first e es =
    let n = (cell_edge e).node in
    let rest = node_pieces (cells_in (map led_node es)) in
    ap (λ (zs : List Piece). n.cell ∷ map piece_cell zs) (sym (append_assoc (leaf_pieces n.leaf) (node_pieces n.under) rest))
    ∙ ap (λ (zs : List Cell). n.cell ∷ zs) (map_append (leaf_pieces n.leaf ++ node_pieces n.under) rest)

pub left_begins : (first : ℕ) (n : Node) (items : List Edge) (cs own : List Cell) → items ≡ (out-Edges (out-Node n).edges).edges.items → own ≡ own_left first (cell_node n) cs → leave_all first (cells_under items) own ≡ leave_all first (all_cells (cell_node n)) cs
left_begins first n items cs own is left =
    let all : (cell_node n).under ≡ cells_in (map led_node items) = sym (out_cell_under n) ∙ ap cells_in (cell_edges_out (out-Node n).edges ∙ ap (map led_node) (sym is)) in
    (λ i. leave_all first (map piece_cell (node_pieces (sym all i))) (left i)) ∙ sym (own_first first (cell_node n) cs)

-- one edge more
pub left_more : (first : ℕ) (es : List Edge) (i : ℕ) (e : Edge) (child : Node) (cs new all : List Cell) → i < length es → e ≡ get_or es i e → cell_node child ≡ (cell_edge e).node → new ≡ leave_all first (all_cells (cell_node child)) cs → leave_all first (cells_under (drop i es)) cs ≡ all → leave_all first (cells_under (drop (i + 1) es)) new ≡ all
left_more first es i e child cs new all lt read same left so_far =
    let next : suc i ≡ i + 1 = omega arith in
    let here : drop i es ≡ e ∷ drop (i + 1) es = drop-cons es i e lt ∙ (λ j. sym read j ∷ drop (next j) es) in
    let cells : cells_under (drop i es) ≡ all_cells (cell_node child) ++ cells_under (drop (i + 1) es) =
    ap cells_under here ∙ under_first e (drop (i + 1) es) ∙ ap (λ (n : CellNode). all_cells n ++ cells_under (drop (i + 1) es)) (sym same) in
    ap (leave_all first (cells_under (drop (i + 1) es))) left
    ∙ sym (leave_all_append first (all_cells (cell_node child)) (cells_under (drop (i + 1) es)) cs)
    ∙ ap (λ (zs : List Cell). leave_all first zs cs) (sym cells)
    ∙ so_far
