-- The node where the descent ends, if that is within the tree.
use Rattle.std.proofs.Common.{◌≡◌, ◌⊎◌, inl, inr, ◌∙◌, [], sym, ap}
use Rattle.radix_node.specs.Cells.{CellNode}
use Rattle.radix_node.specs.CellNode.{cell_node}
use Rattle.radix_node.specs.Nodes.{pairs_of}
use Rattle.radix_node.specs.inner.Descent.{pairs_by}
use Rattle.radix_node.specs.WalkDown.{pairs_if}
use Rattle.radix_node.specs.declared.tree.descent.KeyEnd.{KeyEnd}
use Rattle.radix_node.specs.declared.tree.descent.KeyEnd.TheVariants.{At, Within}
use Rattle.radix_node.proofs.CellLevels.{plain_under}
use Rattle.radix_node.proofs.TreeWatches.{prefix_end}
use Rattle.radix_node.proofs.tree.Tree.seek.Goals as goal

all_pairs : (way : KeyEnd) (n : CellNode) → (way ≡ At) ⊎ (way ≡ Within) → pairs_by way n ≡ pairs_if [] n
all_pairs way n (inl e) = ap (λ w. pairs_by w n) e
all_pairs way n (inr e) = ap (λ w. pairs_by w n) e

pub returns-in-At : goal.returns-in-At
returns-in-At c = record {
  pairs = ap pairs_of (plain_under c.descend-end.result.0.now)
      ∙ sym (c.descend-end.ensures.ends.pairs ∙ all_pairs c.descend-end.result.1 (cell_node c.descend-end.result.0.now) c.in-At.is)
      ∙ sym (prefix_end c.args.self.now c.descend-end.ensures.shape c.args.prefix.now);
  shape = c.descend-end.ensures.path;
}

pub returns-in-Outside-clause-pairs : goal.returns-in-Outside-clause-pairs
returns-in-Outside-clause-pairs c =
    sym (prefix_end c.args.self.now c.descend-end.ensures.shape c.args.prefix.now
    ∙ c.descend-end.ensures.ends.pairs
    ∙ ap (λ w. pairs_by w (cell_node c.descend-end.result.0.now)) c.in-Outside.is)
