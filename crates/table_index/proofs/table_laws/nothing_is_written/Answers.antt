use Rattle.std.proofs.Common.{[], subst}
use Rattle.table_index.specs.Table.{TableRows}
use Rattle.table_index.specs.Written.{HasWritten, new_change}
use Rattle.table_index.proofs.WatchedTables.{holds_entries}
use Rattle.table_index.proofs.WrittenRows.{nothing_yet}
use Rattle.table_index.specs.inner.IndexTrees.{plains, rows_held}
use Rattle.table_index.proofs.table_laws.nothing_is_written.Goals as goal

pub returns : goal.returns
returns c =
    let t = c.table.inside.def in
    let trees = c.table.inside.trees.items in
    let now : TableRows = record { schema = t; rows = rows_held t (plains trees); trees = trees } in
    subst (λ (x : TableRows). HasWritten [] (new_change x)) c.table.view_is (nothing_yet now (holds_entries t trees c.table.invariant))
