-- The steps of the walk down, which keeps the last leaf that it met.
use Rattle.std.proofs.Common.{◌≡◌, ◌∙◌, Option, Some, None, option_map, refl, ap}
use Rattle.std.specs.Option.{option_or}
use Rattle.std.specs.Borrow.{Bor}
use Rattle.mdb_datum.specs.Row.{Pair}
use Rattle.radix_node.specs.Cells.{CellLeaf, plain_of}
use Rattle.radix_node.specs.Node.{plain_node}
use Rattle.radix_node.proofs.EdgeSearch.{rise_from_shape}
use Rattle.radix_node.proofs.LongestPrefix.{or_else, best_root, best_no_edge, best_parted, best_edge}
use Rattle.radix_node.proofs.LookupSteps.{left_shorter}
use Rattle.radix_node.proofs.tree.Tree.last_on_path.Goals as goal

-- the pair of a leaf that is lent
abbrev lent_pair : Option (Bor CellLeaf) → Option Pair
lent_pair o = option_map (λ (l : Bor CellLeaf). l.now.pair) o

or_lent : (x y : Option (Bor CellLeaf)) → lent_pair (option_or x y) ≡ or_else (lent_pair x) (lent_pair y)
or_lent None y = refl
or_lent (Some a) y = refl

pub loop-first-init : goal.loop-first-init
loop-first-init c = best_root c.args.key.now (plain_of c.args.self.now) (plain_node c.root-node.result.now) _ c.root-node.ensures.shape c.root-node.ensures.root c.leaf-best.ensures.leaf

pub child-requires : goal.child-requires
child-requires c = rise_from_shape c.loop-first.invariant.path _ c.loop-first.invariant.shaped

pub returns-in_default-child : goal.returns-in_default-child
returns-in_default-child c =
    best_no_edge _ _ c.loop-first.rest.now (plain_node c.loop-first.node.now) c.loop-first.invariant c.in-Some.first.now c.in-Some.after.now c.in-Some.ensures.cases.0 c.in_default-child.ensures.child

pub returns-in_default-strip_prefix : goal.returns-in_default-strip_prefix
returns-in_default-strip_prefix c =
    best_parted _ _ c.loop-first.rest.now (plain_node c.loop-first.node.now) c.loop-first.invariant c.in-Some.first.now c.in-Some.after.now c.in-Some.ensures.cases.0
    (plain_node c.in-Some-child.child.now) c.in-Some-child.ensures.child c.in_default-strip_prefix.ensures

pub loop-first-smaller : goal.loop-first-smaller
loop-first-smaller c = left_shorter c.in-Some.first.now _ c.loop-first.rest.now c.in-Some.after.now c.in-Some-strip_prefix.left.now c.in-Some.ensures.cases.0 c.in-Some-strip_prefix.ensures

pub loop-first-preserved : goal.loop-first-preserved
loop-first-preserved c =
    best_edge _ _ c.loop-first.rest.now (plain_node c.loop-first.node.now) c.loop-first.invariant c.in-Some.first.now c.in-Some.after.now c.in-Some.ensures.cases.0
    (plain_node c.in-Some-child.child.now) c.in-Some-child.ensures.child c.in-Some-strip_prefix.left.now
    (lent_pair c.or-best.result) c.in-Some-strip_prefix.ensures
    (ap lent_pair c.or-best.ensures ∙ or_lent c.leaf.result c.loop-first.best ∙ ap (λ (o : Option Pair). or_else o (lent_pair c.loop-first.best)) c.leaf.ensures.leaf)
