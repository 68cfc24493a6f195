-- The node stays where it has a leaf or more than one edge; else it has no leaf.
use Rattle.std.proofs.Common.{◌<◌, ◌∙◌, [], Option, Some, length, option_map, sym, ap, subst, arith}
use Rattle.std.specs.Arc.{arc_value}
use Rattle.mdb_datum.specs.Row.{Pair}
use Rattle.radix_node.specs.CellNode.{cell_edges, cell_ref}
use Rattle.radix_node.specs.Cells.{CellLeaf, cells_in, node_pieces}
use Rattle.radix_node.specs.Node.{edges_of, leaf_pair, nodes_in}
use Rattle.radix_txn.specs.inner.Below.{settled_node}
use Rattle.radix_txn.specs.inner.Outside.{AllIn, below_pieces, inner_pieces}
use Rattle.radix_txn.specs.inner.Pieces.{inside_of, ref_list}
use Rattle.radix_txn.specs.inner.Steps.{Steps}
use Rattle.radix_txn.proofs.EditStays.{kept_stays}
use Rattle.radix_txn.proofs.SettledNode.{none_map, settled_leaf, settled_wide, some_map}
use Rattle.std.proofs.lemmas.Result.{IfOk-weaker}
use Rattle.radix_txn.proofs.remains.Remains.settled.Goals as goal
use Rattle.radix_txn.proofs.remains.Remains.settled.Goals.{then-is_some-via-then-is_some, then-is_some-via-else-is_some+then-len-gt1}

pub returns-then-is_some-clause-plain : goal.returns-then-is_some-clause-plain
returns-then-is_some-clause-plain c =
    ap Some c.in_ok-kept.ensures.plain
    ∙ sym (elim c.then-is_some.branch [
      | then-is_some-via-then-is_some w ↦ settled_leaf _ _ _ (some_map leaf_pair c.args.self.leaf w.if-is_some.ensures)
      | then-is_some-via-else-is_some+then-len-gt1 w ↦ let wide : 1 < length (edges_of c.args.self.edges) = omega (arith, w.len.ensures, w.if-len-gt1.true) in settled_wide _ _ _ wide
    ])

pub lone-requires-clause-few : goal.lone-requires-clause-few
lone-requires-clause-few c = omega (arith, c.len.ensures, c.if-len-gt1.false)

pub returns-clause-plain : goal.returns-clause-plain
returns-clause-plain c =
    IfOk-weaker c.lone.result _ _ (λ n plain. plain ∙ sym (ap (λ (o : Option Pair). settled_node c.args.prefix.now o (nodes_in (edges_of c.args.self.edges))) (none_map leaf_pair c.args.self.leaf c.if-is_some.ensures))) c.lone.ensures.plain

pub returns-clause-cells : goal.returns-clause-cells
returns-clause-cells c =
    IfOk-weaker c.lone.result _ _ (λ n cells front. subst (λ (o : Option CellLeaf). Steps (inside_of o (cells_in (cell_edges c.args.self.edges))) c.args.cells.now (node_pieces (cells_in (ref_list front n))) c.lone.new.cells) (sym (none_map arc_value c.args.self.leaf c.if-is_some.ensures))
    (cells front)) c.lone.ensures.cells

-- ---- what stays

pub returns-then-is_some-clause-stays : goal.returns-then-is_some-clause-stays
returns-then-is_some-clause-stays c =
    kept_stays (option_map arc_value c.args.self.leaf) (cells_in (cell_edges c.args.self.edges)) (cell_ref c.in_ok-kept.field-0) c.in_ok-kept.ensures.stays

pub returns-clause-stays : goal.returns-clause-stays
returns-clause-stays c =
    IfOk-weaker c.lone.result _ _ (λ n stays. subst (λ (o : Option CellLeaf). AllIn (below_pieces o (cells_in (cell_edges c.args.self.edges))) (inner_pieces (cells_in (ref_list [] n)))) (sym (none_map arc_value c.args.self.leaf c.if-is_some.ensures))
    stays) c.lone.ensures.stays
