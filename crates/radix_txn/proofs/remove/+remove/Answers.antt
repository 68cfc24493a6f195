-- The walk goes on by the edge of the first byte.
use Rattle.std.proofs.Common.{◌≡◌, [], ◌∷◌, Option, Some, None, ◌<◌, ◌∙◌, List, ℕ, length, IfSome, sym, ap, subst, arith}
use Rattle.mdb_datum.specs.Bytes.{Bytes}
use Rattle.mdb_datum.specs.Row.{Fields}
use Rattle.radix_node.specs.Nodes.{pairs_of}
use Rattle.radix_node.specs.CellNode.{cell_node, led_node}
use Rattle.radix_node.specs.Node.{PlainNode, below, below_prefix, edges_of, plain_edge, plain_node, rest_past}
use Rattle.radix_node.specs.Siblings.{nodes_list}
use Rattle.radix_node.proofs.CellLevels.{same_prefix}
use Rattle.radix_node.proofs.LookupSteps.{left_shorter, no_bytes}
use Rattle.radix_txn.specs.inner.Below.{settled_node}
use Rattle.radix_txn.specs.inner.Removal.{IsRemoval, covers}
use Rattle.radix_txn.specs.inner.Remains.{own_leaf, own_nodes, remains_of, stays_left}
use Rattle.radix_txn.specs.declared.remove.Removed.{Removed}
use Rattle.radix_txn.specs.inner.Outside.{AllIn, outside_node}
use Rattle.radix_txn.specs.inner.Pieces.{led}
use Rattle.radix_txn.proofs.CellInserts.{led_at, there_in}
use Rattle.radix_txn.proofs.ChildShape.{child_at, rises}
use Rattle.radix_txn.proofs.EditStays.{above_stays, covered_stays}
use Rattle.radix_txn.proofs.Outside.{all_in_then}
use Rattle.radix_txn.proofs.InsertSteps.{in_range, led_prefix, led_there, tree_of, with_at}
use Rattle.radix_txn.proofs.RemoveSteps.{covered_loses, covered_removal, err_always, fewer, gap_missing, onward_loses, onward_missing, onward_removal, parted_missing, removal_loses}
use Rattle.radix_txn.proofs.Results.{if_none_weaker, if_some_of, if_some_weaker, none_gives, some_gives}
use Rattle.std.proofs.lemmas.Result.{IfOk-weaker, on_err_weaker}
use Rattle.radix_txn.proofs.remove.+remove.Goals as goal

pub find_edge-requires : goal.find_edge-requires
find_edge-requires t c = record { rising = rises _ (edges_of c.edges.result.now) c.requires.shape c.edges.ensures.edges }

pub returns-in_default-find_edge-clause-missing : goal.returns-in_default-find_edge-clause-missing
returns-in_default-find_edge-clause-missing t c = gap_missing c.in-Some.first.now c.in-Some.after.now c.args.rest.now c.in-Some.ensures.cases.0 (plain_node c.args.node.now) (edges_of c.edges.result.now) c.edges.ensures.edges c.args.target c.in_default-find_edge.field-0 c.in_default-find_edge.ensures.gap

pub returns-in-None-clause-missing : goal.returns-in-None-clause-missing
returns-in-None-clause-missing t c =
    let es = edges_of c.edges.result.now in
    let there = led_there c.in-Some.first.now es c.in-Ok.at (plain_edge c.in-Ok.edge.now) (plain_node c.node-child.result.now) c.in-Ok.ensures.edge c.in-Ok.ensures.place c.node-child.ensures.node in
    let prefix = ap (λ (n : PlainNode). covers c.args.target n.prefix c.in-Some.after.now) c.node-child.ensures.node in
    if_none_weaker c.remove_apart.result _ _ (λ bare. parted_missing c.in-Some.first.now c.in-Some.after.now c.args.rest.now c.in-Some.ensures.cases.0 (plain_node c.args.node.now) es c.edges.ensures.edges c.in-Ok.at c.in-Ok.ensures.place (plain_node c.node-child.result.now) there c.args.target c.in-None.ensures (prefix ∙ bare)) c.remove_apart.ensures.missing

pub remove_apart-requires-clause-in_range : goal.remove_apart-requires-clause-in_range
remove_apart-requires-clause-in_range t c = in_range c.in-Some.first.now c.in-Some.after.now c.args.rest.now c.in-Some.ensures.cases.0 (plain_node c.args.node.now) (edges_of c.edges.result.now) c.edges.ensures.edges c.in-Ok.at c.in-Ok.ensures.place

pub returns-in-None-clause-there : goal.returns-in-None-clause-there
returns-in-None-clause-there t c =
    let es = edges_of c.edges.result.now in
    let there = led_there c.in-Some.first.now es c.in-Ok.at (plain_edge c.in-Ok.edge.now) (plain_node c.node-child.result.now) c.in-Ok.ensures.edge c.in-Ok.ensures.place c.node-child.ensures.node in
    let child = child_at _ es c.in-Ok.at _ c.requires.shape c.edges.ensures.edges (sym there) in
    let prefix = ap (λ (n : PlainNode). covers c.args.target n.prefix c.in-Some.after.now) c.node-child.ensures.node in
    on_err_weaker c.remove_apart.result (λ covered. covered_loses c.in-Some.first.now c.in-Some.after.now c.args.rest.now c.in-Some.ensures.cases.0 (plain_node c.args.node.now) es c.edges.ensures.edges c.in-Ok.at c.in-Ok.ensures.place (plain_node c.node-child.result.now) there c.args.target c.in-None.ensures (prefix ∙ covered) child.occupied) c.remove_apart.ensures.there

pub remove_apart-requires-clause-few : goal.remove_apart-requires-clause-few
remove_apart-requires-clause-few t c =
    let es = edges_of c.edges.result.now in
    let there = led_there c.in-Some.first.now es c.in-Ok.at (plain_edge c.in-Ok.edge.now) (plain_node c.node-child.result.now) c.in-Ok.ensures.edge c.in-Ok.ensures.place c.node-child.ensures.node in
    let same = ap (λ (n : PlainNode). length (pairs_of (below n))) c.node-child.ensures.node in
    omega (arith, c.requires.few, same, fewer c.in-Some.first.now c.in-Some.after.now c.args.rest.now c.in-Some.ensures.cases.0 (plain_node c.args.node.now) es c.edges.ensures.edges c.in-Ok.at c.in-Ok.ensures.place (plain_node c.node-child.result.now) there)

pub returns-in-None-clause-removed : goal.returns-in-None-clause-removed
returns-in-None-clause-removed t c =
    let es = edges_of c.edges.result.now in
    let there = led_there c.in-Some.first.now es c.in-Ok.at (plain_edge c.in-Ok.edge.now) (plain_node c.node-child.result.now) c.in-Ok.ensures.edge c.in-Ok.ensures.place c.node-child.ensures.node in
    let child = child_at _ es c.in-Ok.at _ c.requires.shape c.edges.ensures.edges (sym there) in
    let prefix = ap (λ (n : PlainNode). covers c.args.target n.prefix c.in-Some.after.now) c.node-child.ensures.node in
    let same = ap (λ (n : PlainNode). length (pairs_of (below n))) c.node-child.ensures.node in
    if_some_weaker c.remove_apart.result _ _ (λ r h.
    subst (λ (o : Option Fields). IsRemoval c.args.target c.args.rest.now (below_prefix c.args.node.now) (remains_of r.remains) o r.count) (sym h.1)
    (covered_removal c.in-Some.first.now c.in-Some.after.now c.args.rest.now c.in-Some.ensures.cases.0 (plain_node c.args.node.now) es c.edges.ensures.edges c.in-Ok.at c.in-Ok.ensures.place (plain_node c.node-child.result.now) there c.args.target _ r.count c.in-None.ensures (prefix ∙ h.0) child.occupied (h.2 ∙ sym same) h.3)) c.remove_apart.ensures.removed

pub remove-requires : goal.remove-requires
remove-requires t c =
    let es = edges_of c.edges.result.now in
    let there = led_there c.in-Some.first.now es c.in-Ok.at (plain_edge c.in-Ok.edge.now) (plain_node c.node-child.result.now) c.in-Ok.ensures.edge c.in-Ok.ensures.place c.node-child.ensures.node in
    let child = child_at _ es c.in-Ok.at _ c.requires.shape c.edges.ensures.edges (sym there) in
    let shorter = left_shorter c.in-Some.first.now _ c.args.rest.now c.in-Some.after.now c.in-Some-strip_prefix.left.now c.in-Some.ensures.cases.0 c.in-Some-strip_prefix.ensures in (
      subst (λ n. length c.in-Some-strip_prefix.left.now < n) c.decreases (left_shorter c.in-Some.first.now _ c.args.rest.now c.in-Some.after.now c.in-Some-strip_prefix.left.now c.in-Some.ensures.cases.0 c.in-Some-strip_prefix.ensures),
      (child.under, (omega (arith, c.requires.few, fewer c.in-Some.first.now c.in-Some.after.now c.args.rest.now c.in-Some.ensures.cases.0 (plain_node c.args.node.now) es c.edges.ensures.edges c.in-Ok.at c.in-Ok.ensures.place (plain_node c.node-child.result.now) there), omega (arith, shorter, c.requires.left))),
    )

pub returns-in_err-below-in-Some-strip_prefix-clause-there : goal.returns-in_err-below-in-Some-strip_prefix-clause-there
returns-in_err-below-in-Some-strip_prefix-clause-there t c =
    let es = edges_of c.edges.result.now in
    let there = led_there c.in-Some.first.now es c.in-Ok.at (plain_edge c.in-Ok.edge.now) (plain_node c.node-child.result.now) c.in-Ok.ensures.edge c.in-Ok.ensures.place c.node-child.ensures.node in
    err_always _ (onward_loses c.in-Some.first.now c.in-Some.after.now c.args.rest.now c.in-Some.ensures.cases.0 (plain_node c.args.node.now) es c.edges.ensures.edges c.in-Ok.at c.in-Ok.ensures.place (plain_node c.node-child.result.now) there c.in-Some-strip_prefix.left.now c.in-Some-strip_prefix.ensures c.args.target c.in_err-below-in-Some-strip_prefix.ensures.there)

pub above_all-requires-clause-in_range : goal.above_all-requires-clause-in_range
above_all-requires-clause-in_range t c = in_range c.in-Some.first.now c.in-Some.after.now c.args.rest.now c.in-Some.ensures.cases.0 (plain_node c.args.node.now) (edges_of c.edges.result.now) c.edges.ensures.edges c.in-Ok.at c.in-Ok.ensures.place

pub returns-in_ok-below-in-Some-strip_prefix-clause-there : goal.returns-in_ok-below-in-Some-strip_prefix-clause-there
returns-in_ok-below-in-Some-strip_prefix-clause-there t c =
    let es = edges_of c.edges.result.now in
    let there = led_there c.in-Some.first.now es c.in-Ok.at (plain_edge c.in-Ok.edge.now) (plain_node c.node-child.result.now) c.in-Ok.ensures.edge c.in-Ok.ensures.place c.node-child.ensures.node in
    on_err_weaker c.above_all.result (λ some. some_gives c.in_ok-below-in-Some-strip_prefix.below _ _ (λ r removed. removal_loses c.in-Some.first.now c.in-Some.after.now c.args.rest.now c.in-Some.ensures.cases.0 (plain_node c.args.node.now) es c.edges.ensures.edges c.in-Ok.at c.in-Ok.ensures.place (plain_node c.node-child.result.now) there c.in-Some-strip_prefix.left.now c.in-Some-strip_prefix.ensures c.args.target _ _ _ removed) some c.in_ok-below-in-Some-strip_prefix.ensures.removed) c.above_all.ensures.there

pub returns-in_ok-below-in-Some-strip_prefix-clause-missing : goal.returns-in_ok-below-in-Some-strip_prefix-clause-missing
returns-in_ok-below-in-Some-strip_prefix-clause-missing t c =
    let es = edges_of c.edges.result.now in
    let there = led_there c.in-Some.first.now es c.in-Ok.at (plain_edge c.in-Ok.edge.now) (plain_node c.node-child.result.now) c.in-Ok.ensures.edge c.in-Ok.ensures.place c.node-child.ensures.node in
    if_none_weaker c.above_all.result _ _ (λ none. onward_missing c.in-Some.first.now c.in-Some.after.now c.args.rest.now c.in-Some.ensures.cases.0 (plain_node c.args.node.now) es c.edges.ensures.edges c.in-Ok.at c.in-Ok.ensures.place (plain_node c.node-child.result.now) there c.in-Some-strip_prefix.left.now c.in-Some-strip_prefix.ensures c.args.target (none_gives c.in_ok-below-in-Some-strip_prefix.below _ none c.in_ok-below-in-Some-strip_prefix.ensures.missing)) c.above_all.ensures.missing

pub returns-in_ok-below-in-Some-strip_prefix-clause-removed : goal.returns-in_ok-below-in-Some-strip_prefix-clause-removed
returns-in_ok-below-in-Some-strip_prefix-clause-removed t c =
    let n = plain_node c.args.node.now in
    let es = edges_of c.edges.result.now in
    let there = led_there c.in-Some.first.now es c.in-Ok.at (plain_edge c.in-Ok.edge.now) (plain_node c.node-child.result.now) c.in-Ok.ensures.edge c.in-Ok.ensures.place c.node-child.ensures.node in
    let label = led_prefix c.in-Some.first.now es c.in-Ok.at (plain_edge c.in-Ok.edge.now) (plain_node c.node-child.result.now) c.in-Ok.ensures.edge c.in-Ok.ensures.place c.node-child.ensures.node in
    if_some_of c.above_all.result c.in_ok-below-in-Some-strip_prefix.below _ _ _ (λ r b removed h.
    let left = remains_of b.remains in
    subst (λ (o : Option Fields). IsRemoval c.args.target c.args.rest.now (below_prefix c.args.node.now) (remains_of r.remains) o r.count) (sym h.0)
    (subst (λ k. IsRemoval c.args.target c.args.rest.now (below_prefix c.args.node.now) (remains_of r.remains) b.row k) (sym h.1)
    (onward_removal c.in-Some.first.now c.in-Some.after.now c.args.rest.now c.in-Some.ensures.cases.0 (plain_node c.args.node.now) es c.edges.ensures.edges c.in-Ok.at c.in-Ok.ensures.place (plain_node c.node-child.result.now) there c.in-Some-strip_prefix.left.now c.in-Some-strip_prefix.ensures c.args.target left _ _ _ removed
    (h.2 ∙ ap (λ (p : List ℕ). tree_of n.leaf (with_at c.in-Ok.at (settled_node p left.leaf left.nodes) (nodes_list n.under))) label)))) c.in_ok-below-in-Some-strip_prefix.ensures.removed c.above_all.ensures.removed

-- ---- cells

pub remove_apart-requires-clause-there : goal.remove_apart-requires-clause-there
remove_apart-requires-clause-there t c = there_in c.edges.result.now c.in-Ok.at (led_node c.in-Ok.edge.now) _ c.edges.ensures.cells c.in-Ok.ensures.cells

pub above_all-requires-clause-left : goal.above_all-requires-clause-left
above_all-requires-clause-left t c =
    let shorter = left_shorter c.in-Some.first.now _ c.args.rest.now c.in-Some.after.now c.in-Some-strip_prefix.left.now c.in-Some.ensures.cases.0 c.in-Some-strip_prefix.ensures in
    omega (arith, shorter, c.requires.left, c.in_ok-below-in-Some-strip_prefix.ensures.drawn)

pub returns-in_ok-below-in-Some-strip_prefix-clause-cells : goal.returns-in_ok-below-in-Some-strip_prefix-clause-cells
returns-in_ok-below-in-Some-strip_prefix-clause-cells t c =
    let x = c.in-Some.first.now in
    let child = cell_node c.node-child.result.now in
    let there = led_at x c.edges.result.now c.in-Ok.at c.in-Ok.edge.now child _ c.edges.ensures.cells c.in-Ok.ensures.cells c.in-Ok.ensures.edge c.in-Ok.ensures.place c.node-child.ensures.cells in
    if_some_of c.above_all.result c.in_ok-below-in-Some-strip_prefix.below _ _ _ (λ r b step h front. h.0 front (led (x ∷ []) child) c.args.cells.now there c.in_ok-below-in-Some-strip_prefix.ensures.onward (step (x ∷ []))) c.in_ok-below-in-Some-strip_prefix.ensures.cells c.above_all.ensures.cells

pub returns-in_ok-below-in-Some-strip_prefix-clause-drawn : goal.returns-in_ok-below-in-Some-strip_prefix-clause-drawn
returns-in_ok-below-in-Some-strip_prefix-clause-drawn t c =
    let shorter = left_shorter c.in-Some.first.now _ c.args.rest.now c.in-Some.after.now c.in-Some-strip_prefix.left.now c.in-Some.ensures.cases.0 c.in-Some-strip_prefix.ensures in
    IfOk-weaker c.above_all.result _ _ (λ o drawn. omega (arith, shorter, c.in_ok-below-in-Some-strip_prefix.ensures.drawn, drawn)) c.above_all.ensures.drawn

-- ---- what stays

pub returns-in-None-clause-stays : goal.returns-in-None-clause-stays
returns-in-None-clause-stays t c =
    let x = c.in-Some.first.now in
    let after = c.in-Some.after.now in
    let child = cell_node c.node-child.result.now in
    let there = led_at x c.edges.result.now c.in-Ok.at c.in-Ok.edge.now child _ c.edges.ensures.cells c.in-Ok.ensures.cells c.in-Ok.ensures.edge c.in-Ok.ensures.place c.node-child.ensures.cells in
    let prefix = same_prefix c.node-child.result.now in
    let same = sym prefix ∙ ap (λ (n : PlainNode). n.prefix) c.node-child.ensures.node in
    if_some_weaker c.remove_apart.result _ _ (λ r h.
    covered_stays c.args.target x after c.args.rest.now c.in-Some.ensures.cases.0 (cell_node c.args.node.now) child c.in-Ok.at there (own_leaf r.remains) (own_nodes r.remains) h.4
    (subst (λ (z : Bytes). None ≡ rest_past z after) prefix c.in-None.ensures)
    (ap (λ (z : Bytes). covers c.args.target z after) same ∙ h.0) h.5) c.remove_apart.ensures.removed

pub returns-in_ok-below-in-Some-strip_prefix-clause-stays : goal.returns-in_ok-below-in-Some-strip_prefix-clause-stays
returns-in_ok-below-in-Some-strip_prefix-clause-stays t c =
    let x = c.in-Some.first.now in
    let after = c.in-Some.after.now in
    let left = c.in-Some-strip_prefix.left.now in
    let child = cell_node c.node-child.result.now in
    let there = led_at x c.edges.result.now c.in-Ok.at c.in-Ok.edge.now child _ c.edges.ensures.cells c.in-Ok.ensures.cells c.in-Ok.ensures.edge c.in-Ok.ensures.place c.node-child.ensures.cells in
    if_some_of c.above_all.result c.in_ok-below-in-Some-strip_prefix.below _ _ _ (λ r b stays h.
    above_stays c.args.target x after c.args.rest.now c.in-Some.ensures.cases.0 (cell_node c.args.node.now) child c.in-Ok.at there (own_leaf r.remains) (own_nodes r.remains) h.1 left
    (subst (λ (z : Bytes). Some left ≡ rest_past z after) (same_prefix c.node-child.result.now) c.in-Some-strip_prefix.ensures) h.2 h.3 (all_in_then _ _ _ stays h.4)) c.in_ok-below-in-Some-strip_prefix.ensures.stays c.above_all.ensures.cells

pub returns-in_default-clause-stays : goal.returns-in_default-clause-stays
returns-in_default-clause-stays t c =
    IfOk-weaker c.remove_here.result _ _ (λ o stays. subst (λ (z : Bytes). IfSome o (λ (r : Removed). AllIn (outside_node c.args.target z (cell_node c.args.node.now)) (stays_left r.remains))) (sym (no_bytes c.args.rest.now c.in_default.ensures.cases)) stays) c.remove_here.ensures.stays
