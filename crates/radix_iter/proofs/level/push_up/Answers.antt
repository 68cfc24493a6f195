-- One more level, of all the pairs.
use Rattle.std.proofs.Common.{◌++◌, ◌∙◌, List, ap}
use Rattle.mdb_datum.specs.Row.{Pair}
use Rattle.radix_iter.proofs.RowsGathered.{back}
use Rattle.radix_iter.proofs.LevelSteps.{level_rows_snoc}
use Rattle.radix_iter.specs.inner.LevelRows.{rows_up}
use Rattle.radix_iter.proofs.level.push_up.Goals as goal

pub returns : goal.returns
returns c =
    ap rows_up c.in_ok-push.ensures.items ∙ level_rows_snoc back c.args.levels.now.items c.level_of.result
    ∙ ap (λ (ps : List Pair). rows_up c.args.levels.now.items ++ back ps) c.level_of.ensures.pairs
