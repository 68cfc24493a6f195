-- One more level, with no edges.
use Rattle.std.proofs.Common.{◌++◌, ◌∙◌, List, ap}
use Rattle.std.proofs.lemmas.List.{append-nil}
use Rattle.mdb_datum.specs.Pairs.{rows_of}
use Rattle.mdb_datum.specs.Row.{Pair}
use Rattle.radix_node.specs.Nodes.{pairs_of_leaf}
use Rattle.radix_iter.proofs.LevelSteps.{level_rows_snoc}
use Rattle.radix_iter.specs.inner.LevelRows.{rows_down}
use Rattle.radix_iter.proofs.level.push_own.Goals as goal

pub returns : goal.returns
returns c =
    ap rows_down c.in_ok-push.ensures.items ∙ level_rows_snoc rows_of c.args.levels.now.items _
    ∙ ap (λ (ps : List Pair). rows_down c.args.levels.now.items ++ rows_of ps) (append-nil _ ∙ ap pairs_of_leaf c.leaf.ensures.leaf)
