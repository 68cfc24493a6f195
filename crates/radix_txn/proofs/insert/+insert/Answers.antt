-- The walk goes on by the edge of the first byte.
use Rattle.std.proofs.Common.{refl, ◌≡◌, [], ◌∷◌, ◌+◌, ◌*◌, ◌<◌, ◌∙◌, Some, length, sym, ap, subst, arith}
use Rattle.std.specs.Arc.{arc_value}
use Rattle.std.proofs.lemmas.Result.{IfOk-weaker}
use Rattle.mdb_datum.specs.Bytes.{Bytes}
use Rattle.radix_node.specs.CellNode.{cell_node, cell_ref}
use Rattle.radix_node.specs.Cells.{CellNode}
use Rattle.radix_node.specs.Node.{leaf_pair, edges_of, node_of, plain_edge, plain_node, rest_past}
use Rattle.radix_node.proofs.CellLevels.{same_prefix}
use Rattle.radix_node.proofs.LookupSteps.{left_shorter, no_bytes}
use Rattle.radix_txn.specs.inner.Below.{row_in, leaf_node}
use Rattle.radix_txn.specs.declared.target.Target.TheVariants.{Key}
use Rattle.radix_txn.specs.inner.Outside.{AllIn, outside_node}
use Rattle.radix_txn.specs.inner.Pieces.{inside}
use Rattle.radix_txn.proofs.CellInserts.{place_step, led_at}
use Rattle.radix_txn.proofs.ChildShape.{child_at, rises}
use Rattle.radix_txn.proofs.EditStays.{edge_stays, gap_stays, onward_stays, split_stays}
use Rattle.radix_txn.proofs.Results.{if_both}
use Rattle.radix_txn.proofs.InsertSteps.{gap_within, in_range, insert_gap, insert_onward, led_there, seek_gap, seeks}
use Rattle.radix_txn.proofs.Split.{apart_found, left_found, left_grown}
use Rattle.radix_txn.proofs.insert.+insert.Goals as goal

pub insert-find_edge-requires : goal.insert-find_edge-requires
insert-find_edge-requires t c = record { rising = rises _ (edges_of c.edges.result.now) c.requires.shape c.edges.ensures.edges }

pub insert-add_edge-requires-clause-in_range : goal.insert-add_edge-requires-clause-in_range
insert-add_edge-requires-clause-in_range t c = gap_within c.in-Some.first.now c.in-Some.after.now c.args.rest.now c.in-Some.ensures.cases.0 (plain_node c.args.node.now) (edges_of c.edges.result.now) c.edges.ensures.edges c.in-Err.at c.in-Err.ensures.gap

pub insert-returns-in-Err-clause-node : goal.insert-returns-in-Err-clause-node
insert-returns-in-Err-clause-node t c =
    IfOk-weaker c.add_edge.result _ _ (λ r e. e ∙ insert_gap c.in-Some.first.now c.in-Some.after.now c.args.rest.now c.in-Some.ensures.cases.0 (plain_node c.args.node.now) (edges_of c.edges.result.now) c.edges.ensures.edges (leaf_pair c.args.leaf) c.in-Err.at (leaf_node c.in-Some.after.now (leaf_pair c.args.leaf)) c.in-Err.ensures.gap refl) c.add_edge.ensures.node

pub insert-returns-in-Err-clause-old : goal.insert-returns-in-Err-clause-old
insert-returns-in-Err-clause-old t c = IfOk-weaker c.add_edge.result _ _ (λ r e. e ∙ ap row_in (sym (seek_gap c.in-Some.first.now c.in-Some.after.now c.args.rest.now c.in-Some.ensures.cases.0 (plain_node c.args.node.now) (edges_of c.edges.result.now) c.edges.ensures.edges c.in-Err.at c.in-Err.ensures.gap))) c.add_edge.ensures.old

pub insert-returns-in-Err-clause-stays : goal.insert-returns-in-Err-clause-stays
insert-returns-in-Err-clause-stays t c =
    IfOk-weaker c.add_edge.result _ _ (λ r edge. gap_stays c.in-Some.first.now c.in-Some.after.now c.args.rest.now c.in-Some.ensures.cases.0 (cell_node c.args.node.now) (cell_ref r.node) edge.2 edge.0 c.in-Err.at edge.3) c.add_edge.ensures.edge

pub insert-returns-in_default-clause-stays : goal.insert-returns-in_default-clause-stays
insert-returns-in_default-clause-stays t c =
    IfOk-weaker c.replace_leaf.result _ _ (λ r e. subst (λ (z : Bytes). AllIn (outside_node Key z (cell_node c.args.node.now)) (inside (cell_ref r.node))) (sym (no_bytes c.args.rest.now c.in_default.ensures.cases)) e) c.replace_leaf.ensures.stays

pub insert-above-requires-clause-in_range : goal.insert-above-requires-clause-in_range
insert-above-requires-clause-in_range t c = in_range c.in-Some.first.now c.in-Some.after.now c.args.rest.now c.in-Some.ensures.cases.0 (plain_node c.args.node.now) (edges_of c.edges.result.now) c.edges.ensures.edges c.in-Ok.found.0 c.in-Ok.ensures.place

pub insert-insert_under-requires : goal.insert-insert_under-requires
insert-insert_under-requires t c =
    let c_node = plain_node c.node-child.result.now in
    let there = led_there c.in-Some.first.now (edges_of c.edges.result.now) c.in-Ok.found.0 (plain_edge c.in-Ok.found.1.now) c_node c.in-Ok.ensures.edge c.in-Ok.ensures.place c.node-child.ensures.node in
    let child = child_at _ (edges_of c.edges.result.now) c.in-Ok.found.0 _ c.requires.shape c.edges.ensures.edges (sym there) in
    let shorter : 2 * length c.in-Some.after.now + 1 < 2 * length c.args.rest.now = omega (arith, ap length c.in-Some.ensures.cases.0) in
    (subst (λ n. 2 * length c.in-Some.after.now + 1 < n) c.decreases shorter, (child.under, omega (arith, ap length c.in-Some.ensures.cases.0, c.requires.left)))

pub insert-returns-clause-node : goal.insert-returns-clause-node
insert-returns-clause-node t c =
    let c_node = plain_node c.node-child.result.now in
    let there = led_there c.in-Some.first.now (edges_of c.edges.result.now) c.in-Ok.found.0 (plain_edge c.in-Ok.found.1.now) c_node c.in-Ok.ensures.edge c.in-Ok.ensures.place c.node-child.ensures.node in
    IfOk-weaker c.above.result _ _ (λ r e. e ∙ insert_onward c.in-Some.first.now c.in-Some.after.now c.args.rest.now c.in-Some.ensures.cases.0 (plain_node c.args.node.now) (edges_of c.edges.result.now) c.edges.ensures.edges c.in-Ok.found.0 c.in-Ok.ensures.place c_node there (leaf_pair c.args.leaf) (node_of c.in_ok-below.below.node) c.in_ok-below.ensures.node) c.above.ensures.node

pub insert-returns-clause-old : goal.insert-returns-clause-old
insert-returns-clause-old t c =
    let c_node = plain_node c.node-child.result.now in
    let there = led_there c.in-Some.first.now (edges_of c.edges.result.now) c.in-Ok.found.0 (plain_edge c.in-Ok.found.1.now) c_node c.in-Ok.ensures.edge c.in-Ok.ensures.place c.node-child.ensures.node in
    IfOk-weaker c.above.result _ _ (λ r e. e ∙ c.in_ok-below.ensures.old ∙ ap row_in (sym (seeks c.in-Some.first.now c.in-Some.after.now c.args.rest.now c.in-Some.ensures.cases.0 (plain_node c.args.node.now) (edges_of c.edges.result.now) c.edges.ensures.edges c.in-Ok.found.0 c.in-Ok.ensures.place c_node there))) c.above.ensures.old

pub insert-returns-clause-cells : goal.insert-returns-clause-cells
insert-returns-clause-cells t c =
    let there = led_at c.in-Some.first.now c.edges.result.now c.in-Ok.found.0 c.in-Ok.found.1.now (cell_node c.node-child.result.now) _ c.edges.ensures.cells c.in-Ok.ensures.cells c.in-Ok.ensures.edge c.in-Ok.ensures.place c.node-child.ensures.cells in
    if_both c.above.result _ _ _ (λ r edge left. place_step (arc_value c.args.leaf) (cell_node c.args.node.now) (cell_ref r.node) (cell_node c.node-child.result.now) (cell_ref c.in_ok-below.below.node) c.in-Some.first.now c.in-Ok.found.0 edge.0 _ _ _ there c.in_ok-below.ensures.cells c.in_ok-below.ensures.onward edge.1
    edge.2 left) c.above.ensures.cells c.above.ensures.left

pub insert-returns-clause-fresh : goal.insert-returns-clause-fresh
insert-returns-clause-fresh t c =
    let later = (c.in_ok-below.ensures.cells []).later in
    IfOk-weaker c.above.result _ _ (λ r edge. omega (arith, later, edge.1.0, ap (λ (n : CellNode). n.cell.id) edge.2)) c.above.ensures.cells

pub insert-returns-clause-stays : goal.insert-returns-clause-stays
insert-returns-clause-stays t c =
    let there = led_at c.in-Some.first.now c.edges.result.now c.in-Ok.found.0 c.in-Ok.found.1.now (cell_node c.node-child.result.now) _ c.edges.ensures.cells c.in-Ok.ensures.cells c.in-Ok.ensures.edge c.in-Ok.ensures.place c.node-child.ensures.cells in
    IfOk-weaker c.above.result _ _ (λ r edge. edge_stays c.in-Some.first.now c.in-Some.after.now c.args.rest.now c.in-Some.ensures.cases.0 (cell_node c.args.node.now) (cell_ref r.node) (cell_node c.node-child.result.now) (cell_ref c.in_ok-below.below.node) c.in-Ok.found.0 edge.0 there
    edge.2 c.in_ok-below.ensures.stays) c.above.ensures.cells

-- ---- at the edge

pub insert_under-insert-requires : goal.insert_under-insert-requires
insert_under-insert-requires t c =
    let left = c.in-Some.left.now in
    let m = plain_node c.args.node.now in
    let shorter = left_shorter 0 m.prefix (0 ∷ c.args.rest.now) c.args.rest.now left refl c.in-Some.ensures in
    let fewer : 2 * length left < 2 * length c.args.rest.now + 1 = omega (arith, shorter) in
    (subst (λ n. 2 * length left < n) c.decreases fewer, (c.requires.shape, omega (arith, shorter, c.requires.left)))

pub insert_under-returns-in_default-clause-old : goal.insert_under-returns-in_default-clause-old
insert_under-returns-in_default-clause-old t c =
    IfOk-weaker c.insert_apart.result _ _ (λ r e. e ∙ ap row_in (sym (apart_found c.args.rest.now (plain_node c.args.node.now) c.in_default.ensures))) c.insert_apart.ensures.old

pub insert_under-returns-in_default-clause-stays : goal.insert_under-returns-in_default-clause-stays
insert_under-returns-in_default-clause-stays t c =
    IfOk-weaker c.insert_apart.result _ _ (λ r inner. split_stays c.args.rest.now (cell_node c.args.node.now) (cell_ref r.node) inner) c.insert_apart.ensures.stays

pub insert_under-returns-clause-node : goal.insert_under-returns-clause-node
insert_under-returns-clause-node t c =
    IfOk-weaker c.insert.result _ _ (λ r e. e ∙ sym (left_grown c.args.rest.now c.in-Some.left.now (plain_node c.args.node.now) c.in-Some.ensures (leaf_pair c.args.leaf))) c.insert.ensures.node

pub insert_under-returns-clause-old : goal.insert_under-returns-clause-old
insert_under-returns-clause-old t c =
    IfOk-weaker c.insert.result _ _ (λ r e. e ∙ ap row_in (sym (left_found c.args.rest.now c.in-Some.left.now (plain_node c.args.node.now) c.in-Some.ensures))) c.insert.ensures.old

pub insert_under-returns-clause-stays : goal.insert_under-returns-clause-stays
insert_under-returns-clause-stays t c =
    let some = subst (λ (z : Bytes). Some c.in-Some.left.now ≡ rest_past z c.args.rest.now) (same_prefix c.args.node.now) c.in-Some.ensures in
    IfOk-weaker c.insert.result _ _ (λ r inner. onward_stays c.args.rest.now c.in-Some.left.now (cell_node c.args.node.now) (cell_ref r.node) some inner) c.insert.ensures.stays

pub insert_under-returns-clause-few : goal.insert_under-returns-clause-few
insert_under-returns-clause-few t c =
    let left = c.in-Some.left.now in
    let shorter = left_shorter 0 (plain_node c.args.node.now).prefix (0 ∷ c.args.rest.now) c.args.rest.now left refl c.in-Some.ensures in
    IfOk-weaker c.insert.result _ _ (λ r e. omega (arith, shorter, e)) c.insert.ensures.few
