-- The steps down along the key, each of which adds the rows of higher keys beside it.
use Rattle.std.proofs.lemmas.Result.{IfOk-equal}
use Rattle.radix_node.specs.Cells.{plain_of}
use Rattle.radix_node.specs.Node.{plain_node}
use Rattle.radix_node.proofs.EdgeSearch.{rise_from_shape}
use Rattle.radix_node.proofs.LookupSteps.{left_shorter}
use Rattle.radix_iter.proofs.WalkSteps.{no_child, one_child, up_root, up_no_edge, up_parted, up_edge}
use Rattle.radix_iter.specs.inner.LevelRows.{rows_up}
use Rattle.radix_iter.proofs.lower_bound.push_at_least.Goals as goal

pub loop-first-init : goal.loop-first-init
loop-first-init c = up_root c.args.key.now (plain_of c.args.tree.now) (plain_node c.root-node.result.now) (rows_up c.args.levels.now.items) c.root-node.ensures.shape c.root-node.ensures.root

pub split_at_label-requires : goal.split_at_label-requires
split_at_label-requires c = rise_from_shape c.loop-first.invariant.path _ c.loop-first.invariant.shaped

pub returns-in_default-child : goal.returns-in_default-child
returns-in_default-child c =
    up_no_edge _ (rows_up c.loop-first.levels.items) c.loop-first.rest.now (plain_node c.loop-first.node.now) c.loop-first.invariant c.in-Some.first.now c.in-Some.after.now c.in-Some.ensures.cases.0
    (rows_up c.push_edges.new.levels.items) _ c.split_at_label.ensures.higher c.in_ok-push_edges.ensures (no_child c.in-Some.first.now _ _ c.in_default-child.is c.split_at_label.ensures.child)

pub returns-in_default-strip_prefix : goal.returns-in_default-strip_prefix
returns-in_default-strip_prefix c =
    IfOk-equal c.push_if_higher.result (rows_up c.push_if_higher.new.levels.items) _ _ c.push_if_higher.ensures
    (up_parted _ (rows_up c.loop-first.levels.items) c.loop-first.rest.now (plain_node c.loop-first.node.now) c.loop-first.invariant c.in-Some.first.now c.in-Some.after.now c.in-Some.ensures.cases.0
    (rows_up c.push_edges.new.levels.items) _ c.split_at_label.ensures.higher c.in_ok-push_edges.ensures
    (plain_node c.in-Some-child.child.now) (one_child c.in-Some.first.now _ _ _ c.in-Some-child.is c.split_at_label.ensures.child) c.in_default-strip_prefix.ensures)

pub loop-first-smaller : goal.loop-first-smaller
loop-first-smaller c = left_shorter c.in-Some.first.now _ c.loop-first.rest.now c.in-Some.after.now c.in-Some-strip_prefix.left.now c.in-Some.ensures.cases.0 c.in-Some-strip_prefix.ensures

pub loop-first-preserved : goal.loop-first-preserved
loop-first-preserved c =
    up_edge _ (rows_up c.loop-first.levels.items) c.loop-first.rest.now (plain_node c.loop-first.node.now) c.loop-first.invariant c.in-Some.first.now c.in-Some.after.now c.in-Some.ensures.cases.0
    (rows_up c.push_edges.new.levels.items) _ c.split_at_label.ensures.higher c.in_ok-push_edges.ensures
    (plain_node c.in-Some-child.child.now) (one_child c.in-Some.first.now _ _ _ c.in-Some-child.is c.split_at_label.ensures.child) c.in-Some-strip_prefix.left.now c.in-Some-strip_prefix.ensures
