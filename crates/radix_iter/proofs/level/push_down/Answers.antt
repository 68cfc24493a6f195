-- One more level, of all the pairs.
use Rattle.std.proofs.Common.{◌++◌, ◌∙◌, List, ap}
use Rattle.mdb_datum.specs.Pairs.{rows_of}
use Rattle.mdb_datum.specs.Row.{Pair}
use Rattle.radix_iter.proofs.LevelSteps.{level_rows_snoc}
use Rattle.radix_iter.specs.inner.LevelRows.{rows_down}
use Rattle.radix_iter.proofs.level.push_down.Goals as goal

pub returns : goal.returns
returns c =
    ap rows_down c.in_ok-push.ensures.items ∙ level_rows_snoc rows_of c.args.levels.now.items c.level_of.result
    ∙ ap (λ (ps : List Pair). rows_down c.args.levels.now.items ++ rows_of ps) c.level_of.ensures.pairs
