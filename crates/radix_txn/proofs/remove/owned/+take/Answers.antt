-- The walk goes on by an edge whose node is lent, or ends here.
use Rattle.std.proofs.Common.{refl, ◌≡◌, ◌+◌, ◌*◌, ◌<◌, ◌^◌, ◌∙◌, IfOk, length, sym, ap, subst, arith}
use Rattle.radix_node.specs.CellNode.{cell_node, cell_ref}
use Rattle.radix_node.specs.Cells.{CellNode}
use Rattle.radix_node.specs.Node.{below}
use Rattle.radix_node.specs.Nodes.{pairs_of}
use Rattle.radix_node.specs.Siblings.{bare, cells_list}
use Rattle.radix_txn.specs.declared.remove.owned.Gone.{Gone}
use Rattle.radix_txn.specs.inner.Below.{IsShapedBelow}
use Rattle.radix_txn.specs.inner.Gone.{HasNone, IsCutUnder, IsGone, IsLeft, LeadsOn}
use Rattle.radix_txn.specs.inner.Removal.{LosesPairs}
use Rattle.radix_txn.proofs.PutSteps.{bare_length, edges_list}
use Rattle.radix_txn.proofs.RemoveSteps.{err_always}
use Rattle.radix_txn.proofs.Results.{on_err_weaker}
use Rattle.radix_txn.proofs.TakeLent.{child_lent, grown_lent, leads_within, same_lent}
use Rattle.radix_txn.proofs.TakeSteps.{child_fewer, child_is, child_loses, kept_onward, left_as, left_loses, none_onward, rest_shorter}
use Rattle.radix_txn.proofs.remove.owned.+take.Goals as goal

pub take_at-take_in-requires : goal.take_at-take_in-requires
take_at-take_in-requires t c =
    let same : cell_node c.in-Some.node.now ≡ cell_ref c.args.slot.now = c.in-Some.ensures.cells in
    let fewer : 2 * length c.args.rest.now < 2 * length c.args.rest.now + 1 = omega arith in
    let own = c.if-owns.ensures refl in
    let at_slot = ap (λ (n : CellNode). n.cell.id) c.node.ensures.cells in
    let at_node = ap (λ (n : CellNode). n.cell.id) same in (
      subst (λ n. 2 * length c.args.rest.now < n) c.decreases fewer,
      (
        subst (λ (n : CellNode). IsShapedBelow (bare n).under) (sym same) c.requires.shape,
        (
          subst (λ (n : CellNode). length (pairs_of (below (bare n))) < 2 ^ 64) (sym same) c.requires.few,
          (c.requires.left, omega (arith, own, at_slot, at_node)),
        ),
      ),
    )

pub take_in-edge_mut-edge-requires : goal.take_in-edge_mut-edge-requires
take_in-edge_mut-edge-requires t c =
    let list = edges_list c.args.node.now c.edges_mut.result.now c.edges_mut.ensures.edges in
    omega (arith, leads_within c.in-Some.at c.in-Some.left.now c.args.rest.now (cell_node c.args.node.now) c.in-Some.ensures, ap length list, bare_length (cell_node c.args.node.now).under)

pub take_in-take_at-requires : goal.take_in-take_at-requires
take_in-take_at-requires t c =
    let child = child_lent c.args.node.now c.edges_mut.result.now c.edge_mut-edge.result.now c.in-Some.at c.edges_mut.ensures.cells c.edge_mut-edge.ensures.cells c.in-Some.left.now c.args.rest.now c.in-Some.ensures (cell_ref c.node_mut.result.now) c.node_mut.ensures.cells in
    let shorter = rest_shorter c.args.target c.in-Some.at c.in-Some.left.now c.args.rest.now (cell_node c.args.node.now) c.in-Some.ensures in
    let fewer : 2 * length c.in-Some.left.now + 1 < 2 * length c.args.rest.now = omega (arith, shorter) in
    let few : length (pairs_of (below (bare (let w = c.in-Some.ensures in w.child)))) < 2 ^ 64 = omega (arith, c.requires.few, child_fewer c.args.target c.in-Some.at c.in-Some.left.now c.args.rest.now (cell_node c.args.node.now) c.in-Some.ensures) in (
      subst (λ n. 2 * length c.in-Some.left.now + 1 < n) c.decreases fewer,
      (
        subst (λ (n : CellNode). IsShapedBelow (bare n).under) (sym child) (child_is c.args.target c.in-Some.at c.in-Some.left.now c.args.rest.now (cell_node c.args.node.now) c.in-Some.ensures c.requires.shape).under,
        (subst (λ (n : CellNode). length (pairs_of (below (bare n))) < 2 ^ 64) (sym child) few, omega (arith, shorter, c.requires.left)),
      ),
    )

pub take_in-returns-in_err-take_at-clause-unchanged : goal.take_in-returns-in_err-take_at-clause-unchanged
take_in-returns-in_err-take_at-clause-unchanged t c =
    let child = child_lent c.args.node.now c.edges_mut.result.now c.edge_mut-edge.result.now c.in-Some.at c.edges_mut.ensures.cells c.edge_mut-edge.ensures.cells c.in-Some.left.now c.args.rest.now c.in-Some.ensures (cell_ref c.node_mut.result.now) c.node_mut.ensures.cells in
    err_always _ (same_lent c.args.node.now c.edges_mut.result.now c.edge_mut-edge.result.now c.in-Some.at c.edges_mut.ensures.cells c.edge_mut-edge.ensures.cells c.in-Some.left.now c.args.rest.now c.in-Some.ensures c.take_at.new.slot (c.in_err-take_at.ensures.unchanged ∙ child))

pub take_in-returns-in_err-take_at-clause-there : goal.take_in-returns-in_err-take_at-clause-there
take_in-returns-in_err-take_at-clause-there t c =
    let child = child_lent c.args.node.now c.edges_mut.result.now c.edge_mut-edge.result.now c.in-Some.at c.edges_mut.ensures.cells c.edge_mut-edge.ensures.cells c.in-Some.left.now c.args.rest.now c.in-Some.ensures (cell_ref c.node_mut.result.now) c.node_mut.ensures.cells in
    err_always _ (child_loses c.args.target c.in-Some.at c.in-Some.left.now c.args.rest.now (cell_node c.args.node.now) c.in-Some.ensures
    (subst (λ (n : CellNode). LosesPairs c.args.target c.in-Some.left.now (below (bare n))) child c.in_err-take_at.ensures.there))

pub take_in-settle_edge-requires-clause-in_range : goal.take_in-settle_edge-requires-clause-in_range
take_in-settle_edge-requires-clause-in_range t c =
    let child = child_lent c.args.node.now c.edges_mut.result.now c.edge_mut-edge.result.now c.in-Some.at c.edges_mut.ensures.cells c.edge_mut-edge.ensures.cells c.in-Some.left.now c.args.rest.now c.in-Some.ensures (cell_ref c.node_mut.result.now) c.node_mut.ensures.cells in
    let h : IsLeft c.args.target c.in-Some.left.now (cell_ref c.node_mut.result.now) (cell_ref c.take_at.new.slot) c.in-Left.below c.args.cells.now c.take_at.new.cells = subst (λ (g : Gone). IsGone c.args.target c.in-Some.left.now (cell_ref c.node_mut.result.now) (cell_ref c.take_at.new.slot) g c.args.cells.now c.take_at.new.cells) c.in-Left.is c.in_ok-take_at.ensures.gone in
    let same = same_lent c.args.node.now c.edges_mut.result.now c.edge_mut-edge.result.now c.in-Some.at c.edges_mut.ensures.cells c.edge_mut-edge.ensures.cells c.in-Some.left.now c.args.rest.now c.in-Some.ensures c.take_at.new.slot (h.same ∙ child) in
    subst (λ (n : CellNode). c.in-Some.at < length (cells_list n.under)) (sym same) (leads_within c.in-Some.at c.in-Some.left.now c.args.rest.now (cell_node c.args.node.now) c.in-Some.ensures)

pub take_in-settle_edge-requires-clause-left : goal.take_in-settle_edge-requires-clause-left
take_in-settle_edge-requires-clause-left t c =
    let h : IsLeft c.args.target c.in-Some.left.now (cell_ref c.node_mut.result.now) (cell_ref c.take_at.new.slot) c.in-Left.below c.args.cells.now c.take_at.new.cells = subst (λ (g : Gone). IsGone c.args.target c.in-Some.left.now (cell_ref c.node_mut.result.now) (cell_ref c.take_at.new.slot) g c.args.cells.now c.take_at.new.cells) c.in-Left.is c.in_ok-take_at.ensures.gone in
    let few = h.few in
    let shorter = rest_shorter c.args.target c.in-Some.at c.in-Some.left.now c.args.rest.now (cell_node c.args.node.now) c.in-Some.ensures in
    omega (arith, few, shorter, c.requires.left)

pub take_in-returns-in-Missing-clause-gone : goal.take_in-returns-in-Missing-clause-gone
take_in-returns-in-Missing-clause-gone t c =
    let child = child_lent c.args.node.now c.edges_mut.result.now c.edge_mut-edge.result.now c.in-Some.at c.edges_mut.ensures.cells c.edge_mut-edge.ensures.cells c.in-Some.left.now c.args.rest.now c.in-Some.ensures (cell_ref c.node_mut.result.now) c.node_mut.ensures.cells in
    let h : HasNone c.args.target c.in-Some.left.now (cell_ref c.node_mut.result.now) (cell_ref c.take_at.new.slot) c.args.cells.now c.take_at.new.cells = subst (λ (g : Gone). IsGone c.args.target c.in-Some.left.now (cell_ref c.node_mut.result.now) (cell_ref c.take_at.new.slot) g c.args.cells.now c.take_at.new.cells) c.in-Missing.is c.in_ok-take_at.ensures.gone in
    none_onward c.args.target c.in-Some.at c.in-Some.left.now c.args.rest.now (cell_node c.args.node.now) c.in-Some.ensures (cell_ref c.take_at.new.slot) _ c.args.cells.now c.take_at.new.cells
    (subst (λ (n : CellNode). HasNone c.args.target c.in-Some.left.now n (cell_ref c.take_at.new.slot) c.args.cells.now c.take_at.new.cells) child h)
    (same_lent c.args.node.now c.edges_mut.result.now c.edge_mut-edge.result.now c.in-Some.at c.edges_mut.ensures.cells c.edge_mut-edge.ensures.cells c.in-Some.left.now c.args.rest.now c.in-Some.ensures c.take_at.new.slot (h.same ∙ child))

pub take_in-returns-in-Under-clause-gone : goal.take_in-returns-in-Under-clause-gone
take_in-returns-in-Under-clause-gone t c =
    let child = child_lent c.args.node.now c.edges_mut.result.now c.edge_mut-edge.result.now c.in-Some.at c.edges_mut.ensures.cells c.edge_mut-edge.ensures.cells c.in-Some.left.now c.args.rest.now c.in-Some.ensures (cell_ref c.node_mut.result.now) c.node_mut.ensures.cells in
    let d = c.in-Under.deleted in
    let h : IsCutUnder c.args.target c.in-Some.left.now (cell_ref c.node_mut.result.now) (cell_ref c.take_at.new.slot) d.row d.count c.args.cells.now c.take_at.new.cells = subst (λ (g : Gone). IsGone c.args.target c.in-Some.left.now (cell_ref c.node_mut.result.now) (cell_ref c.take_at.new.slot) g c.args.cells.now c.take_at.new.cells) c.in-Under.is c.in_ok-take_at.ensures.gone in
    kept_onward c.args.target c.in-Some.at c.in-Some.left.now c.args.rest.now (cell_node c.args.node.now) c.in-Some.ensures c.requires.shape (cell_ref c.take_at.new.slot) _ d.row d.count c.args.cells.now c.take_at.new.cells
    (grown_lent c.args.node.now c.edges_mut.result.now c.edge_mut-edge.result.now c.in-Some.at c.edges_mut.ensures.cells c.edge_mut-edge.ensures.cells c.in-Some.left.now c.args.rest.now c.in-Some.ensures c.take_at.new.slot) c.requires.own
    (subst (λ (n : CellNode). IsCutUnder c.args.target c.in-Some.left.now n (cell_ref c.take_at.new.slot) d.row d.count c.args.cells.now c.take_at.new.cells) child h)

pub take_in-returns-in-Left-clause-gone : goal.take_in-returns-in-Left-clause-gone
take_in-returns-in-Left-clause-gone t c =
    let child = child_lent c.args.node.now c.edges_mut.result.now c.edge_mut-edge.result.now c.in-Some.at c.edges_mut.ensures.cells c.edge_mut-edge.ensures.cells c.in-Some.left.now c.args.rest.now c.in-Some.ensures (cell_ref c.node_mut.result.now) c.node_mut.ensures.cells in
    let below_it = c.in-Left.below in
    let a = c.args.cells.now in
    let b = c.take_at.new.cells in
    let h : IsLeft c.args.target c.in-Some.left.now (cell_ref c.node_mut.result.now) (cell_ref c.take_at.new.slot) below_it a b = subst (λ (g : Gone). IsGone c.args.target c.in-Some.left.now (cell_ref c.node_mut.result.now) (cell_ref c.take_at.new.slot) g c.args.cells.now c.take_at.new.cells) c.in-Left.is c.in_ok-take_at.ensures.gone in
    let same = same_lent c.args.node.now c.edges_mut.result.now c.edge_mut-edge.result.now c.in-Some.at c.edges_mut.ensures.cells c.edge_mut-edge.ensures.cells c.in-Some.left.now c.args.rest.now c.in-Some.ensures c.take_at.new.slot (h.same ∙ child) in
    subst (λ (n : CellNode). (w : LeadsOn c.in-Some.at c.in-Some.left.now c.args.rest.now n) → IsLeft c.args.target c.in-Some.left.now w.child w.child below_it a b → IfOk c.settle_edge.result (λ (g : Gone). IsGone c.args.target c.args.rest.now n (cell_node c.settle_edge.new.node) g a c.settle_edge.new.cells)) same
    (c.settle_edge.ensures.gone c.args.target c.in-Some.left.now c.args.rest.now a) c.in-Some.ensures
    (left_as c.args.target c.in-Some.left.now (cell_ref c.node_mut.result.now) (cell_ref c.take_at.new.slot) _ below_it a b child h)

pub take_in-returns-in-Left-clause-unchanged : goal.take_in-returns-in-Left-clause-unchanged
take_in-returns-in-Left-clause-unchanged t c =
    let child = child_lent c.args.node.now c.edges_mut.result.now c.edge_mut-edge.result.now c.in-Some.at c.edges_mut.ensures.cells c.edge_mut-edge.ensures.cells c.in-Some.left.now c.args.rest.now c.in-Some.ensures (cell_ref c.node_mut.result.now) c.node_mut.ensures.cells in
    let h : IsLeft c.args.target c.in-Some.left.now (cell_ref c.node_mut.result.now) (cell_ref c.take_at.new.slot) c.in-Left.below c.args.cells.now c.take_at.new.cells = subst (λ (g : Gone). IsGone c.args.target c.in-Some.left.now (cell_ref c.node_mut.result.now) (cell_ref c.take_at.new.slot) g c.args.cells.now c.take_at.new.cells) c.in-Left.is c.in_ok-take_at.ensures.gone in
    let same = same_lent c.args.node.now c.edges_mut.result.now c.edge_mut-edge.result.now c.in-Some.at c.edges_mut.ensures.cells c.edge_mut-edge.ensures.cells c.in-Some.left.now c.args.rest.now c.in-Some.ensures c.take_at.new.slot (h.same ∙ child) in
    on_err_weaker c.settle_edge.result _ _ (λ e. e ∙ same) c.settle_edge.ensures.unchanged

pub take_in-returns-in-Left-clause-there : goal.take_in-returns-in-Left-clause-there
take_in-returns-in-Left-clause-there t c =
    let child = child_lent c.args.node.now c.edges_mut.result.now c.edge_mut-edge.result.now c.in-Some.at c.edges_mut.ensures.cells c.edge_mut-edge.ensures.cells c.in-Some.left.now c.args.rest.now c.in-Some.ensures (cell_ref c.node_mut.result.now) c.node_mut.ensures.cells in
    let h : IsLeft c.args.target c.in-Some.left.now (cell_ref c.node_mut.result.now) (cell_ref c.take_at.new.slot) c.in-Left.below c.args.cells.now c.take_at.new.cells = subst (λ (g : Gone). IsGone c.args.target c.in-Some.left.now (cell_ref c.node_mut.result.now) (cell_ref c.take_at.new.slot) g c.args.cells.now c.take_at.new.cells) c.in-Left.is c.in_ok-take_at.ensures.gone in
    err_always c.settle_edge.result (left_loses c.args.target c.in-Some.at c.in-Some.left.now c.args.rest.now (cell_node c.args.node.now) c.in-Some.ensures c.in-Left.below c.args.cells.now c.take_at.new.cells (left_as c.args.target c.in-Some.left.now (cell_ref c.node_mut.result.now) (cell_ref c.take_at.new.slot) _ c.in-Left.below c.args.cells.now c.take_at.new.cells child h))
