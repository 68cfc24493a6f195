use Rattle.std.proofs.Common.{◌∙◌}
use Rattle.radix_node.specs.CellNode.{cell_node}
use Rattle.table_index.specs.inner.PiecesLeft.{pieces_at}
use Rattle.table_index.proofs.NetSteps.{all_to_come, hold_first, still_hold, was_step, whole_first}
use Rattle.table_index.proofs.SharedPairs.{hold_the_same}
use Rattle.table_index.proofs.net_walk.net_of_trees.Goals as goal

pub steps-init : goal.steps-init
steps-init c =
    let old = c.args.old.now in
    let new = c.args.new.now in
    let left = all_to_come (cell_node c.root.result.now) old (pieces_at c.in_ok-olds.olds) c.root.ensures.cells c.in_ok-olds.ensures in
    let right = all_to_come (cell_node c.root-2.result.now) new (pieces_at c.in_ok-news.news) c.root-2.ensures.cells c.in_ok-news.ensures in
    record {
      whole = whole_first old new (pieces_at c.in_ok-olds.olds) (pieces_at c.in_ok-news.news) left right c.new-net.result c.new-net.ensures;
      shared =
          hold_first old new (pieces_at c.in_ok-olds.olds) (pieces_at c.in_ok-news.news) left right
          (hold_the_same old new c.root.ensures.shape c.root-2.ensures.shape c.root-2.ensures.apart c.requires);
    }

pub steps-preserved : goal.steps-preserved
steps-preserved c =
    let step = was_step c.in_ok-step.field-0 (pieces_at c.steps.olds) (pieces_at c.steps.news) (pieces_at c.step.new.old) (pieces_at c.step.new.new) c.steps.net c.step.new.net c.in_ok-step.ensures c.if-branch.true in
    record {
      whole = step.whole ∙ c.steps.invariant.whole;
      shared = still_hold (pieces_at c.steps.olds) (pieces_at c.steps.news) (pieces_at c.step.new.old) (pieces_at c.step.new.new) c.steps.net c.step.new.net step c.steps.invariant.shared;
    }
