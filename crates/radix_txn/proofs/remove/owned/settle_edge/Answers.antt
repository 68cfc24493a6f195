use Rattle.std.proofs.Common.{◌≡◌, ◌+◌, ◌++◌, ◌∙◌, Bool, length, take, drop, refl, sym, ap, subst, arith}
use Rattle.watch_word.specs.Logs.{Cell}
use Rattle.radix_node.specs.CellNode.{cell_node, cell_ref}
use Rattle.radix_node.specs.Cells.{CellNode, cells_in}
use Rattle.radix_node.specs.Lending.{with_edge, with_edges, with_ref}
use Rattle.radix_node.specs.Node.{PlainNode, nodes_in, plain_node}
use Rattle.radix_node.specs.Nodes.{Plain}
use Rattle.radix_node.specs.Siblings.{bare, cells_list, nodes_list}
use Rattle.radix_node.proofs.CellLevels.{bare_node}
use Rattle.radix_txn.specs.inner.Gone.{IsSettled, IsStanding, IsVoid}
use Rattle.radix_txn.specs.inner.Steps.{one_left}
use Rattle.radix_txn.proofs.PutSteps.{bare_length, edges_list, lent_same}
use Rattle.radix_txn.proofs.RemoveSteps.{err_always}
use Rattle.radix_txn.proofs.TakeLent.{child_lent, grown_lent}
use Rattle.radix_txn.proofs.TakeSteps.{lost_edge, standing_onward, void_onward}
use Rattle.radix_txn.proofs.remove.owned.settle_edge.Goals as goal

pub edge_mut-edge-requires : goal.edge_mut-edge-requires
edge_mut-edge-requires c =
    let list = edges_list c.args.node.now c.edges_mut.result.now c.edges_mut.ensures.edges in
    omega (arith, c.requires.in_range, ap length list, bare_length (cell_node c.args.node.now).under)

pub returns-in_err-settle_node-clause-unchanged : goal.returns-in_err-settle_node-clause-unchanged
returns-in_err-settle_node-clause-unchanged c =
    err_always _ (lent_same c.args.node.now c.edges_mut.result.now c.edge_mut-edge.result.now c.args.at c.edges_mut.ensures.cells c.edge_mut-edge.ensures.cells c.requires.in_range c.settle_node.new.slot (c.in_err-settle_node.ensures.unchanged ∙ c.node_mut.ensures.cells))

pub returns-then-branch-clause-gone : goal.returns-then-branch-clause-gone
returns-then-branch-clause-gone c target left rest old w h =
    let slot = c.settle_node.new.slot in
    let owner = c.args.node.now in
    let a = c.args.cells.now in
    let b = c.settle_node.new.cells in
    let r = c.args.below.remains in
    let child = child_lent owner c.edges_mut.result.now c.edge_mut-edge.result.now c.args.at c.edges_mut.ensures.cells c.edge_mut-edge.ensures.cells left rest w (cell_ref c.node_mut.result.now) c.node_mut.ensures.cells in
    let stands : IsStanding (cell_ref c.node_mut.result.now) (cell_ref slot) r a b = subst (λ (x : Bool). IsSettled x (cell_ref c.node_mut.result.now) (cell_ref slot) r a b) c.if-branch.true c.in_ok-settle_node.ensures.settled in
    let first = h.onward.first in
    standing_onward target c.args.at left rest (cell_node owner) w c.args.below old a h (cell_ref slot) _ b
    (grown_lent owner c.edges_mut.result.now c.edge_mut-edge.result.now c.args.at c.edges_mut.ensures.cells c.edge_mut-edge.ensures.cells left rest w slot)
    (omega (arith, c.requires.own, first)) (subst (λ (k : CellNode). IsStanding k (cell_ref slot) r a b) child stands)

pub returns-in_err-leave-clause-unchanged : goal.returns-in_err-leave-clause-unchanged
returns-in_err-leave-clause-unchanged c =
    let slot = c.settle_node.new.slot in
    let void : IsVoid (cell_ref c.node_mut.result.now) (cell_ref slot) c.args.below.remains c.args.cells.now c.settle_node.new.cells = subst (λ (x : Bool). IsSettled x (cell_ref c.node_mut.result.now) (cell_ref slot) c.args.below.remains c.args.cells.now c.settle_node.new.cells) c.if-branch.false c.in_ok-settle_node.ensures.settled in
    err_always _ (lent_same c.args.node.now c.edges_mut.result.now c.edge_mut-edge.result.now c.args.at c.edges_mut.ensures.cells c.edge_mut-edge.ensures.cells c.requires.in_range slot (void.same ∙ c.node_mut.ensures.cells))

pub without_edge-requires : goal.without_edge-requires
without_edge-requires c =
    let slot = c.settle_node.new.slot in
    let void : IsVoid (cell_ref c.node_mut.result.now) (cell_ref slot) c.args.below.remains c.args.cells.now c.settle_node.new.cells = subst (λ (x : Bool). IsSettled x (cell_ref c.node_mut.result.now) (cell_ref slot) c.args.below.remains c.args.cells.now c.settle_node.new.cells) c.if-branch.false c.in_ok-settle_node.ensures.settled in
    let same = lent_same c.args.node.now c.edges_mut.result.now c.edge_mut-edge.result.now c.args.at c.edges_mut.ensures.cells c.edge_mut-edge.ensures.cells c.requires.in_range slot (void.same ∙ c.node_mut.ensures.cells) in
    lost_edge c.args.at (with_edges c.args.node.now (with_edge c.edges_mut.result.now c.args.at (with_ref c.edge_mut-edge.result.now slot))) (cell_node c.args.node.now) same c.requires.in_range

pub returns-in_err-without_edge-clause-unchanged : goal.returns-in_err-without_edge-clause-unchanged
returns-in_err-without_edge-clause-unchanged c =
    let slot = c.settle_node.new.slot in
    let void : IsVoid (cell_ref c.node_mut.result.now) (cell_ref slot) c.args.below.remains c.args.cells.now c.settle_node.new.cells = subst (λ (x : Bool). IsSettled x (cell_ref c.node_mut.result.now) (cell_ref slot) c.args.below.remains c.args.cells.now c.settle_node.new.cells) c.if-branch.false c.in_ok-settle_node.ensures.settled in
    err_always _ (lent_same c.args.node.now c.edges_mut.result.now c.edge_mut-edge.result.now c.args.at c.edges_mut.ensures.cells c.edge_mut-edge.ensures.cells c.requires.in_range slot (void.same ∙ c.node_mut.ensures.cells))

pub returns-clause-gone : goal.returns-clause-gone
returns-clause-gone c target left rest old w h =
    let slot = c.settle_node.new.slot in
    let owner = c.args.node.now in
    let n = cell_node owner in
    let at = c.args.at in
    let a = c.args.cells.now in
    let b = c.settle_node.new.cells in
    let k = cell_ref c.node_mut.result.now in
    let r = c.args.below.remains in
    let left_over = c.in_ok-without_edge.field-0 in
    let child = child_lent owner c.edges_mut.result.now c.edge_mut-edge.result.now at c.edges_mut.ensures.cells c.edge_mut-edge.ensures.cells left rest w k c.node_mut.ensures.cells in
    let void : IsVoid k (cell_ref slot) r a b = subst (λ (x : Bool). IsSettled x k (cell_ref slot) r a b) c.if-branch.false c.in_ok-settle_node.ensures.settled in
    let lent = with_edges owner (with_edge c.edges_mut.result.now at (with_ref c.edge_mut-edge.result.now slot)) in
    let same : cell_node lent ≡ n = lent_same owner c.edges_mut.result.now c.edge_mut-edge.result.now at c.edges_mut.ensures.cells c.edge_mut-edge.ensures.cells c.requires.in_range slot (void.same ∙ c.node_mut.ensures.cells) in
    let plain : plain_node lent ≡ bare n = sym (bare_node lent) ∙ ap bare same in
    void_onward target at left rest n w c.args.below old a h (cell_ref slot) (cell_node lent) _ b c.leave.new.self same
    (subst (λ (v : CellNode). IsVoid v (cell_ref slot) r a b) child void) refl refl
    (c.in_ok-without_edge.ensures.plain ∙ ap (λ (p : PlainNode). let es = nodes_list p.under in let t : Plain = record { leaf = p.leaf; nodes = nodes_in (take at es ++ drop (at + 1) es) } in t) plain)
    (c.in_ok-without_edge.ensures.leaf ∙ ap (λ (v : CellNode). v.leaf) same)
    (c.in_ok-without_edge.ensures.nodes ∙ ap (λ (v : CellNode). let es = cells_list v.under in cells_in (take at es ++ drop (at + 1) es)) same)
    (c.in_ok-leave.ensures.left ∙ ap (λ (x : Cell). one_left x b) (c.cell.ensures ∙ ap (λ (v : CellNode). v.cell) same))
