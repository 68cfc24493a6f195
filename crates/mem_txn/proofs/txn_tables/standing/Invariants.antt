use Rattle.std.proofs.Common.{◌≡◌, map, take}
use Rattle.std.specs.Arc.{arc_value}
use Rattle.mem_txn.specs.inner.VersionTables.{standing}
use Rattle.mem_txn.proofs.txn_tables.standing.Given as goal

abbrev pub invariant-loop-at : goal.invariant-loop-at
invariant-loop-at l = (l.tables ≡ l.initial.tables) × (map arc_value l.present.items ≡ map standing (take l.at l.initial.tables))
