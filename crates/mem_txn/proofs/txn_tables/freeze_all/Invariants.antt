use Rattle.std.proofs.Common.{◌≡◌, ◌++◌, map}
use Rattle.std.specs.Arc.{arc_value}
use Rattle.std.specs.Vec.Iter.{into_iter_items}
use Rattle.mem_txn.specs.inner.Ended.{AreTold, EndWith}
use Rattle.mem_txn.specs.inner.VersionTables.{standing}
use Rattle.mem_txn.proofs.txn_tables.freeze_all.Given as goal

abbrev pub invariant-loop-table : goal.invariant-loop-table
invariant-loop-table l = record {
  tables : map arc_value l.frozen.tables.items ≡ map standing l.yielded;
  ends : EndWith l.yielded (map arc_value l.frozen.tables.items) l.frozen.gone.items;
  changes : AreTold 0 l.yielded l.frozen.changes;
  all : l.fn.tables.items ≡ l.yielded ++ into_iter_items l.table-iterator;
}
