-- The steps down along the key, each of which adds the row of a prefix of it and the rows of lower
-- keys beside it.
use Rattle.std.proofs.lemmas.Result.{IfOk-equal}
use Rattle.radix_node.specs.Cells.{plain_of}
use Rattle.radix_node.specs.Node.{plain_node}
use Rattle.radix_node.proofs.EdgeSearch.{rise_from_shape}
use Rattle.radix_node.proofs.LookupSteps.{left_shorter}
use Rattle.radix_iter.proofs.WalkSteps.{no_child, one_child, down_root, down_no_edge, down_parted, down_edge}
use Rattle.radix_iter.specs.inner.LevelRows.{rows_down}
use Rattle.radix_iter.proofs.upper_bound.push_at_most.Goals as goal

pub loop-first-init : goal.loop-first-init
loop-first-init c = down_root c.args.key.now (plain_of c.args.tree.now) (plain_node c.root-node.result.now) (rows_down c.args.levels.now.items) c.root-node.ensures.shape c.root-node.ensures.root

pub split_at_label-requires : goal.split_at_label-requires
split_at_label-requires c = rise_from_shape c.loop-first.invariant.path _ c.loop-first.invariant.shaped

pub returns-in_default-child : goal.returns-in_default-child
returns-in_default-child c =
    down_no_edge _ (rows_down c.loop-first.levels.items) c.loop-first.rest.now (plain_node c.loop-first.node.now) c.loop-first.invariant c.in-Some.first.now c.in-Some.after.now c.in-Some.ensures.cases.0
    (rows_down c.push_before.new.levels.items) _ c.split_at_label.ensures.lower c.in_ok-push_before.ensures (no_child c.in-Some.first.now _ _ c.in_default-child.is c.split_at_label.ensures.child)

pub returns-in_default-strip_prefix : goal.returns-in_default-strip_prefix
returns-in_default-strip_prefix c =
    IfOk-equal c.push_if_lower.result (rows_down c.push_if_lower.new.levels.items) _ _ c.push_if_lower.ensures
    (down_parted _ (rows_down c.loop-first.levels.items) c.loop-first.rest.now (plain_node c.loop-first.node.now) c.loop-first.invariant c.in-Some.first.now c.in-Some.after.now c.in-Some.ensures.cases.0
    (rows_down c.push_before.new.levels.items) _ c.split_at_label.ensures.lower c.in_ok-push_before.ensures
    (plain_node c.in-Some-child.child.now) (one_child c.in-Some.first.now _ _ _ c.in-Some-child.is c.split_at_label.ensures.child) c.in_default-strip_prefix.ensures)

pub loop-first-smaller : goal.loop-first-smaller
loop-first-smaller c = left_shorter c.in-Some.first.now _ c.loop-first.rest.now c.in-Some.after.now c.in-Some-strip_prefix.left.now c.in-Some.ensures.cases.0 c.in-Some-strip_prefix.ensures

pub loop-first-preserved : goal.loop-first-preserved
loop-first-preserved c =
    down_edge _ (rows_down c.loop-first.levels.items) c.loop-first.rest.now (plain_node c.loop-first.node.now) c.loop-first.invariant c.in-Some.first.now c.in-Some.after.now c.in-Some.ensures.cases.0
    (rows_down c.push_before.new.levels.items) _ c.split_at_label.ensures.lower c.in_ok-push_before.ensures
    (plain_node c.in-Some-child.child.now) (one_child c.in-Some.first.now _ _ _ c.in-Some-child.is c.split_at_label.ensures.child) c.in-Some-strip_prefix.left.now c.in-Some-strip_prefix.ensures
