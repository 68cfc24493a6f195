-- The rows that a walk still gives, by the levels that it keeps.
use Rattle.std.specs.Prelude.{List, [], reverse}
use Rattle.mdb_datum.specs.Row.{Fields}
use Rattle.radix_iter.specs.inner.LevelRows.{rows_down, rows_up}
use Rattle.radix_iter.specs.declared.walk.Rest.{Rest}
use Rattle.radix_iter.specs.declared.walk.Rest.TheVariants.{Nothing, Rising, Falling}

abbrev pub rest_rows : Rest → List Fields
rest_rows Nothing = []
rest_rows (Rising levels) = reverse (rows_up levels.items)
rest_rows (Falling levels) = reverse (rows_down levels.items)
