-- The steps of the walk.
use Rattle.std.proofs.Common.{◌++◌, ◌∷◌, ◌∙◌, [], true, false, sym, ap, subst}
use Rattle.std.specs.Prelude.{nat_eq}
use Rattle.std.specs.List.{starts_with}
use Rattle.mdb_datum.specs.Bytes.{Bytes}
use Rattle.radix_node.specs.CellNode.{cell_node}
use Rattle.radix_node.specs.Node.{plain_node, rest_past}
use Rattle.radix_node.specs.Nodes.{Plain}
use Rattle.radix_node.specs.Shape.{IsShaped}
use Rattle.radix_node.proofs.CellLevels.{same_prefix}
use Rattle.radix_node.proofs.EdgeSearch.{rise_from_shape}
use Rattle.radix_node.proofs.LookupSteps.{child_shaped, left_shorter}
use Rattle.radix_node.proofs.WalkSteps.{walk_root, walk_ended, walk_no_edge, walk_parted, walk_onward}
use Rattle.radix_node.proofs.tree.Tree.descend.Goals as goal

pub loop-first-init : goal.loop-first-init
loop-first-init c = record {
  at = walk_root c.args.key.now c.args.self.now (cell_node c.root-node.result.now) c.root-node.ensures.cells;
  path = [];
  shaped = subst (λ (t : Plain). IsShaped [] t.nodes) (sym c.root-node.ensures.root) c.root-node.ensures.shape.nodes;
}

pub child-requires : goal.child-requires
child-requires c = rise_from_shape c.loop-first.invariant.path _ c.loop-first.invariant.shaped

pub loop-first-smaller : goal.loop-first-smaller
loop-first-smaller c = left_shorter c.in-Some.first.now _ c.loop-first.rest.now c.in-Some.after.now c.in-Some-strip_prefix.left.now c.in-Some.ensures.cases.0 c.in-Some-strip_prefix.ensures

pub loop-first-preserved : goal.loop-first-preserved
loop-first-preserved c = record {
  at = walk_onward _ c.loop-first.rest.now (cell_node c.loop-first.node.now) c.loop-first.invariant.at c.in-Some.first.now c.in-Some.after.now c.in-Some.ensures.cases.0 (cell_node c.in-Some-child.child.now) c.in-Some-child.ensures.cells c.in-Some-strip_prefix.left.now (c.in-Some-strip_prefix.ensures ∙ ap (λ (p : Bytes). rest_past p c.in-Some.after.now) (same_prefix c.in-Some-child.child.now));
  path = c.loop-first.invariant.path ++ c.in-Some.first.now ∷ (plain_node c.in-Some-child.child.now).prefix;
  shaped = child_shaped c.loop-first.invariant.path c.in-Some.first.now _ (plain_node c.in-Some-child.child.now) c.loop-first.invariant.shaped c.in-Some-child.ensures.child;
}

pub returns-in_default-child-clause-ends : goal.returns-in_default-child-clause-ends
returns-in_default-child-clause-ends c = walk_no_edge _ c.loop-first.rest.now (cell_node c.loop-first.node.now) c.loop-first.invariant.at c.in-Some.first.now c.in-Some.after.now c.in-Some.ensures.cases.0 c.in_default-child.ensures.cells

pub returns-in-None-clause-ends : goal.returns-in-None-clause-ends
returns-in-None-clause-ends c =
    walk_parted _ c.loop-first.rest.now (cell_node c.loop-first.node.now) c.loop-first.invariant.at c.in-Some.first.now c.in-Some.after.now c.in-Some.ensures.cases.0 (cell_node c.in-Some-child.child.now) c.in-Some-child.ensures.cells
    (c.in-None.ensures ∙ ap (λ (p : Bytes). rest_past p c.in-Some.after.now) (same_prefix c.in-Some-child.child.now))
    true
    (ap (λ (p : Bytes). starts_with nat_eq p c.in-Some.after.now) (sym (c.prefix.ensures ∙ same_prefix c.in-Some-child.child.now)) ∙ sym c.starts_with.ensures.value ∙ c.if-starts_with.true)

pub returns-in-None-clause-path : goal.returns-in-None-clause-path
returns-in-None-clause-path c = (
  c.loop-first.invariant.path ++ c.in-Some.first.now ∷ (plain_node c.in-Some-child.child.now).prefix,
  child_shaped c.loop-first.invariant.path c.in-Some.first.now _ (plain_node c.in-Some-child.child.now) c.loop-first.invariant.shaped c.in-Some-child.ensures.child,
)

pub returns-in-None-2-clause-ends : goal.returns-in-None-2-clause-ends
returns-in-None-2-clause-ends c =
    walk_parted _ c.loop-first.rest.now (cell_node c.loop-first.node.now) c.loop-first.invariant.at c.in-Some.first.now c.in-Some.after.now c.in-Some.ensures.cases.0 (cell_node c.in-Some-child.child.now) c.in-Some-child.ensures.cells
    (c.in-None-2.ensures ∙ ap (λ (p : Bytes). rest_past p c.in-Some.after.now) (same_prefix c.in-Some-child.child.now))
    false
    (ap (λ (p : Bytes). starts_with nat_eq p c.in-Some.after.now) (sym (c.prefix.ensures ∙ same_prefix c.in-Some-child.child.now)) ∙ sym c.starts_with.ensures.value ∙ c.if-starts_with.false)

pub returns-in-None-2-clause-path : goal.returns-in-None-2-clause-path
returns-in-None-2-clause-path c = (
  c.loop-first.invariant.path ++ c.in-Some.first.now ∷ (plain_node c.in-Some-child.child.now).prefix,
  child_shaped c.loop-first.invariant.path c.in-Some.first.now _ (plain_node c.in-Some-child.child.now) c.loop-first.invariant.shaped c.in-Some-child.ensures.child,
)

pub returns-clause-ends : goal.returns-clause-ends
returns-clause-ends c = walk_ended _ c.loop-first.rest.now (cell_node c.loop-first.node.now) c.loop-first.invariant.at c.in_default.ensures.cases
