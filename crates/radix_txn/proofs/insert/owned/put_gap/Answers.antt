use Rattle.std.proofs.Common.{◌≡◌, ◌≤◌, ◌++◌, ◌∷◌, ◌∙◌, List, length, take, drop, refl, sym, ap, subst}
use Rattle.std.specs.Arc.{arc_value}
use Rattle.radix_node.specs.CellNode.{cell_edges, cell_node, led_node}
use Rattle.radix_node.specs.Cells.{CellLeaf, CellNode, cells_in}
use Rattle.radix_node.specs.Node.{PlainNode, edges_of}
use Rattle.radix_node.specs.Siblings.{bare, nodes_list}
use Rattle.radix_node.proofs.CellLevels.{bare_node}
use Rattle.radix_node.proofs.Lent.{cells_with_edges}
use Rattle.radix_txn.specs.inner.Steps.{IsNextOf}
use Rattle.radix_txn.proofs.CellInserts.{cells_list_of}
use Rattle.radix_txn.proofs.InsertSteps.{gap_within}
use Rattle.radix_txn.proofs.PutSteps.{nodes_in_list, put_new_edge}
use Rattle.radix_txn.proofs.SettledNode.{list_of}
use Rattle.radix_txn.proofs.insert.owned.put_gap.Goals as goal

pub insert-requires : goal.insert-requires
insert-requires c =
    let n = bare (cell_node c.args.node.now) in
    let same : edges_of c.edges_mut.result.now ≡ nodes_list n.under = list_of _ _ c.edges_mut.ensures.edges ∙ ap (λ (p : PlainNode). nodes_list p.under) (sym (bare_node c.args.node.now)) in
    subst (λ (es : List PlainNode). c.args.at ≤ length es) (sym same) (gap_within c.args.label c.args.prefix.now (c.args.label ∷ c.args.prefix.now) refl n (nodes_list n.under) (nodes_in_list n.under) c.args.at c.requires.gap)

pub returns-clause-put : goal.returns-clause-put
returns-clause-put c =
    let n = cell_node c.args.node.now in
    let made = c.in_ok-leaf.ensures.leaf in
    let new = c.in_ok-edge.ensures.cells in
    put_new_edge _ c.args.label c.args.prefix.now _ refl n _ c.args.at c.args.cells.now c.requires.own (led_node c.in_ok-edge.edge) new.0 (arc_value c.in_ok-leaf.leaf) c.new_leaf.new.cells _ c.requires.gap
    (ap (λ (l : CellLeaf). l.pair) made.2) c.in_ok-leaf.ensures.begun (subst (λ (l : CellLeaf). IsNextOf c.args.cells.now l.cell) (sym made.2) made.1) c.in_ok-leaf.ensures.drawn new.1 new.2 c.in_ok-edge.ensures.drawn
    (cells_with_edges c.args.node.now c.insert.new.self
    ∙ (λ i. record {
      cell = n.cell;
      prefix = n.prefix;
      leaf = n.leaf;
      under = cells_in ((c.in_ok-insert.ensures.cells ∙ ap (λ (es : List CellNode). take c.args.at es ++ led_node c.in_ok-edge.edge ∷ drop c.args.at es) (cells_list_of (cell_edges c.edges_mut.result.now) n.under c.edges_mut.ensures.cells)) i);
    }))
