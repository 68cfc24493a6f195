-- One more level, of the leaf and the lower edges.
use Rattle.std.proofs.Common.{◌++◌, ◌∙◌, ap}
use Rattle.mdb_datum.specs.Pairs.{rows_of}
use Rattle.radix_node.specs.Nodes.{pairs_of_leaf}
use Rattle.radix_iter.proofs.RowsGathered.{pairs_at_edges}
use Rattle.radix_iter.proofs.LevelSteps.{level_rows_snoc}
use Rattle.radix_iter.specs.inner.LevelRows.{rows_down}
use Rattle.radix_iter.proofs.level.push_before.Goals as goal

pub returns : goal.returns
returns c =
    ap rows_down c.in_ok-push.ensures.items ∙ level_rows_snoc rows_of c.args.levels.now.items _
    ∙ ap (λ o. rows_down c.args.levels.now.items ++ rows_of (pairs_of_leaf o ++ pairs_at_edges c.args.lower.now)) c.leaf.ensures.leaf
