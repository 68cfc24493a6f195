-- There is one edge, or none.
use Rattle.std.proofs.Common.{◌≤◌, ◌∙◌, None, Some, length, refl, sym, ap, subst, arith}
use Rattle.radix_node.specs.CellNode.{cell_edges, cell_ref, led_node}
use Rattle.radix_node.specs.Node.{edges_of}
use Rattle.radix_txn.specs.inner.Steps.{Ledger}
use Rattle.radix_txn.proofs.CellRemains.{nothing_step, only_step, same_length}
use Rattle.radix_txn.proofs.EditStays.{nothing_stays, only_stays}
use Rattle.radix_txn.proofs.SettledNode.{merged_none, merged_one}
use Rattle.radix_txn.proofs.remains.lone.Goals as goal

pub returns-in-None-clause-plain : goal.returns-in-None-clause-plain
returns-in-None-clause-plain c = sym (merged_none c.args.prefix.now (edges_of c.args.edges.now) c.in-None.ensures.edge)

pub returns-in-None-clause-cells : goal.returns-in-None-clause-cells
returns-in-None-clause-cells c front =
    nothing_step None (cell_edges c.args.edges.now) c.args.cells.now (subst (λ (l : Ledger). l.first ≤ l.next) c.cells.view_is c.cells.invariant.1) refl c.in-None.ensures.cells

pub returns-in_ok-merge_child-in-Some-clause-plain : goal.returns-in_ok-merge_child-in-Some-clause-plain
returns-in_ok-merge_child-in-Some-clause-plain c =
    ap Some c.in_ok-merge_child-in-Some.ensures.plain
    ∙ sym (merged_one c.args.prefix.now (edges_of c.args.edges.now) _ c.requires.few c.in-Some.ensures.edge)

pub returns-in_ok-merge_child-in-Some-clause-cells : goal.returns-in_ok-merge_child-in-Some-clause-cells
returns-in_ok-merge_child-in-Some-clause-cells c front =
    let few : length (cell_edges c.args.edges.now) ≤ 1 = omega (arith, c.requires.few, same_length c.args.edges.now) in
    only_step None (cell_edges c.args.edges.now) (led_node c.in-Some.edge.now) _ c.args.cells.now c.merge_child.new.cells refl few c.in-Some.ensures.cells (c.in_ok-merge_child-in-Some.ensures.cells front)

-- ---- what stays

pub returns-in-None-clause-stays : goal.returns-in-None-clause-stays
returns-in-None-clause-stays c = nothing_stays None (cell_edges c.args.edges.now) refl c.in-None.ensures.cells

pub returns-in_ok-merge_child-in-Some-clause-stays : goal.returns-in_ok-merge_child-in-Some-clause-stays
returns-in_ok-merge_child-in-Some-clause-stays c =
    let few : length (cell_edges c.args.edges.now) ≤ 1 = omega (arith, c.requires.few, same_length c.args.edges.now) in
    only_stays None (cell_edges c.args.edges.now) (led_node c.in-Some.edge.now) (cell_ref c.in_ok-merge_child-in-Some.field-0) refl few c.in-Some.ensures.cells c.in_ok-merge_child-in-Some.ensures.stays
