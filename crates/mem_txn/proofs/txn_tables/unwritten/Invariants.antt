use Rattle.std.proofs.Common.{◌≡◌, ℕ, [], map, take}
use Rattle.std.specs.Prelude.{All}
use Rattle.std.specs.Arc.{arc_value}
use Rattle.mem_txn.specs.inner.VersionTables.{HasChanged, unwritten}
use Rattle.mem_txn.proofs.txn_tables.unwritten.Given as goal

abbrev pub invariant-loop-table : goal.invariant-loop-table
invariant-loop-table l =
    (l.tables.items ≡ map unwritten (map arc_value (take l.table-index l.shared)))
    × ((first : ℕ) → All (HasChanged first []) l.tables.items)
