-- The walk goes on by the edge of the first byte, which is lent.
use Rattle.std.proofs.Common.{refl, ◌≡◌, ◌∷◌, ◌+◌, ◌*◌, ◌<◌, ◌∙◌, Some, length, sym, ap, subst, arith}
use Rattle.std.proofs.lemmas.Result.{IfOk-weaker}
use Rattle.radix_node.specs.CellNode.{cell_node, cell_ref}
use Rattle.radix_node.specs.Cells.{CellNode, plain_nodes}
use Rattle.radix_node.specs.Edges.{place_of}
use Rattle.radix_node.specs.Node.{PlainNode, edges_of, plain_node, rest_past}
use Rattle.radix_node.specs.Siblings.{bare, nodes_list}
use Rattle.radix_node.proofs.CellLevels.{bare_node, bare_ref}
use Rattle.radix_node.proofs.LookupSteps.{left_shorter}
use Rattle.radix_txn.specs.inner.Below.{IsShapedBelow}
use Rattle.radix_txn.proofs.ChildShape.{rises}
use Rattle.radix_txn.proofs.InsertSteps.{in_range}
use Rattle.radix_txn.proofs.PutSteps.{bare_length, edges_list, lent_put, lent_same, lent_shaped, nodes_in_list, put_at_edge, put_onward}
use Rattle.radix_txn.proofs.Results.{on_err_weaker}
use Rattle.radix_txn.proofs.insert.owned.+put.Goals as goal

pub put_at-put_in-requires : goal.put_at-put_in-requires
put_at-put_in-requires t c =
    let same : cell_node c.in-Some.node.now ≡ cell_ref c.args.slot.now = c.in-Some.ensures.cells in
    let fewer : 4 * length c.args.rest.now < 4 * length c.args.rest.now + 1 = omega arith in
    let own = c.if-owns.ensures refl in
    let at_slot = ap (λ (n : CellNode). n.cell.id) c.node.ensures.cells in
    let at_node = ap (λ (n : CellNode). n.cell.id) same in (
      subst (λ n. 4 * length c.args.rest.now < n) c.decreases fewer,
      (subst (λ (n : CellNode). IsShapedBelow (bare n).under) (sym same) c.requires.shape, (c.requires.left, omega (arith, own, at_slot, at_node))),
    )

pub put_edge-edge_mut-edge-requires : goal.put_edge-edge_mut-edge-requires
put_edge-edge_mut-edge-requires t c =
    let list = edges_list c.args.node.now c.edges_mut.result.now c.edges_mut.ensures.edges in
    omega (arith, c.requires.in_range, ap length list, bare_length (cell_node c.args.node.now).under)

pub put_edge-put_under-requires : goal.put_edge-put_under-requires
put_edge-put_under-requires t c =
    let fewer : 4 * length c.args.rest.now + 2 < 4 * length c.args.rest.now + 3 = omega arith in (
      subst (λ n. 4 * length c.args.rest.now + 2 < n) c.decreases fewer,
      (
        lent_shaped c.args.node.now c.edges_mut.result.now c.edge_mut-edge.result.now c.args.at c.edges_mut.ensures.cells c.edge_mut-edge.ensures.cells c.requires.shape (cell_ref c.node_mut.result.now) c.node_mut.ensures.cells,
        c.requires.left,
      ),
    )

pub put_edge-returns-clause-put : goal.put_edge-returns-clause-put
put_edge-returns-clause-put t c =
    IfOk-weaker c.put_under.result _ _ (λ r put. lent_put c.args.node.now c.edges_mut.result.now c.edge_mut-edge.result.now c.args.at c.edges_mut.ensures.cells c.edge_mut-edge.ensures.cells c.requires.in_range c.put_under.new.slot _ c.args.rest.now (cell_ref c.node_mut.result.now) r c.args.cells.now c.put_under.new.cells c.node_mut.ensures.cells put) c.put_under.ensures.put

pub put_edge-returns-clause-unchanged : goal.put_edge-returns-clause-unchanged
put_edge-returns-clause-unchanged t c =
    on_err_weaker c.put_under.result _ _ (λ same. lent_same c.args.node.now c.edges_mut.result.now c.edge_mut-edge.result.now c.args.at c.edges_mut.ensures.cells c.edge_mut-edge.ensures.cells c.requires.in_range c.put_under.new.slot (same ∙ c.node_mut.ensures.cells)) c.put_under.ensures.unchanged

pub put_in-find-requires : goal.put_in-find-requires
put_in-find-requires t c = record {
  rising = rises _ (edges_of c.edges.result.now) (subst (λ (n : PlainNode). IsShapedBelow n.under) (bare_node c.args.node.now) c.requires.shape) c.edges.ensures.edges;
}

pub put_in-put_gap-requires-clause-gap : goal.put_in-put_gap-requires-clause-gap
put_in-put_gap-requires-clause-gap t c = c.in-Err.ensures ∙ ap (place_of c.in-Some.first.now) (edges_list c.args.node.now c.edges.result.now c.edges.ensures.edges)

pub put_in-put_edge-requires : goal.put_in-put_edge-requires
put_in-put_edge-requires t c =
    let is = c.in-Some.ensures.cases.0 in
    let u = (cell_node c.args.node.now).under in
    let found = c.in-Ok.ensures ∙ ap (place_of c.in-Some.first.now) (edges_list c.args.node.now c.edges.result.now c.edges.ensures.edges) in
    let within = in_range c.in-Some.first.now c.in-Some.after.now c.args.rest.now is (bare (cell_node c.args.node.now)) (nodes_list (plain_nodes u)) (nodes_in_list (plain_nodes u)) c.in-Ok.at found in
    let fewer : 4 * length c.in-Some.after.now + 3 < 4 * length c.args.rest.now = omega (arith, ap length is) in (
      subst (λ n. 4 * length c.in-Some.after.now + 3 < n) c.decreases fewer,
      (c.requires.shape, (omega (arith, within, bare_length u), omega (arith, ap length is, c.requires.left))),
    )

pub put_in-returns-in-Ok-clause-put : goal.put_in-returns-in-Ok-clause-put
put_in-returns-in-Ok-clause-put t c =
    let found = c.in-Ok.ensures ∙ ap (place_of c.in-Some.first.now) (edges_list c.args.node.now c.edges.result.now c.edges.ensures.edges) in
    IfOk-weaker c.put_edge.result _ _ (λ r put. put_at_edge _ c.in-Some.first.now c.in-Some.after.now c.args.rest.now c.in-Some.ensures.cases.0 (cell_node c.args.node.now) _ c.in-Ok.at c.args.cells.now c.requires.own r c.put_edge.new.cells found put) c.put_edge.ensures.put

pub put_under-put_at-requires : goal.put_under-put_at-requires
put_under-put_at-requires t c =
    let left = c.in-Some.left.now in
    let shorter = left_shorter 0 (plain_node c.node.result.now).prefix (0 ∷ c.args.rest.now) c.args.rest.now left refl c.in-Some.ensures in
    let fewer : 4 * length left + 1 < 4 * length c.args.rest.now + 2 = omega (arith, shorter) in
    (subst (λ n. 4 * length left + 1 < n) c.decreases fewer, (c.requires.shape, omega (arith, shorter, c.requires.left)))

pub put_under-returns-clause-put : goal.put_under-returns-clause-put
put_under-returns-clause-put t c =
    let left = c.in-Some.left.now in
    let same : plain_node c.node.result.now ≡ bare (cell_ref c.args.slot.now) = c.node.ensures.node ∙ sym (bare_ref c.args.slot.now) in
    let some = subst (λ (n : PlainNode). Some left ≡ rest_past n.prefix c.args.rest.now) same c.in-Some.ensures in
    IfOk-weaker c.put_at.result _ _ (λ r put. put_onward _ c.args.rest.now left (cell_ref c.args.slot.now) _ r c.args.cells.now c.put_at.new.cells some put) c.put_at.ensures.put
