use Rattle.std.proofs.Common.{List, subst}
use Rattle.std.specs.Prelude.{All}
use Rattle.radix_node.specs.Cells.{AreApart, CellTree}
use Rattle.table_index.specs.Watched.{HoldsRows}
use Rattle.table_index.proofs.WatchedTables.{holds_entries}
use Rattle.table_index.proofs.table_laws.rows_are_held.Goals as goal

pub returns : goal.returns
returns c =
    let trees = c.table.inside.trees.items in
    let apart : All AreApart trees = subst (λ (ts : List CellTree). All AreApart ts) c.deref.ensures.value c.cells_are_apart.ensures in
    subst HoldsRows c.table.view_is (record { rows = holds_entries c.table.inside.def trees c.table.invariant; apart = apart })
