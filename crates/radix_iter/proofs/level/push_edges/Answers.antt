-- One more level.
use Rattle.std.proofs.Common.{◌∙◌, ap}
use Rattle.radix_iter.proofs.RowsGathered.{back}
use Rattle.radix_iter.proofs.LevelSteps.{level_rows_snoc}
use Rattle.radix_iter.specs.inner.LevelRows.{rows_up}
use Rattle.radix_iter.proofs.level.push_edges.Goals as goal

pub returns : goal.returns
returns c = ap rows_up c.in_ok-push.ensures.items ∙ level_rows_snoc back c.args.levels.now.items _
