-- A look-up in the nodes finds what stands under the key in the pairs.
use Rattle.std.proofs.Common.{◌∙◌, Some, ap, sym}
use Rattle.std.specs.ControlFlow.{continue_value}
use Rattle.std.specs.Option.{option_copied}
use Rattle.radix_node.specs.Cells.{plain_of}
use Rattle.radix_node.proofs.TreeWatches.{get_some, get_none}
use Rattle.radix_node.proofs.WholeTree.{rising_plain}
use Rattle.radix_node.proofs.tree.Tree.get.Goals as goal

pub returns-in_err-look_up-clause-rising : goal.returns-in_err-look_up-clause-rising
returns-in_err-look_up-clause-rising c = rising_plain (plain_of c.args.self.now) c.look_up.ensures.shape

pub returns-clause-rising : goal.returns-clause-rising
returns-clause-rising c = rising_plain (plain_of c.args.self.now) c.look_up.ensures.shape

pub returns-in_err-look_up-clause-value : goal.returns-in_err-look_up-clause-value
returns-in_err-look_up-clause-value c =
    ap option_copied c.from_residual.ensures
    ∙ (get_none c.args.self.now c.look_up.ensures.shape c.args.key.now (sym c.look_up.ensures.leaf ∙ ap option_copied (c.branch-look_up.ensures ∙ ap continue_value c.in_err-look_up.is))).1

pub returns-clause-value : goal.returns-clause-value
returns-clause-value c =
    ap Some c.row.ensures
    ∙ (get_some c.args.self.now c.look_up.ensures.shape c.args.key.now c.in_ok-look_up.field-0.now (sym c.look_up.ensures.leaf ∙ ap option_copied (c.branch-look_up.ensures ∙ ap continue_value c.in_ok-look_up.is))).1
