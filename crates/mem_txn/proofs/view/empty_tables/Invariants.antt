use Rattle.std.proofs.Common.{◌≡◌, ◌≤◌, ◌*◌, map, take}
use Rattle.std.specs.Arc.{arc_value}
use Rattle.mem_txn.specs.inner.EmptyTables.{AreEmpty}
use Rattle.mem_txn.proofs.view.empty_tables.Given as goal

abbrev pub invariant-loop-at : goal.invariant-loop-at
invariant-loop-at l = record {
  empty : AreEmpty (take l.at l.schema) l.ids (map arc_value l.tables.items);
  book : l.ids.book ≡ l.initial.ids.book;
  few : l.ids.next ≤ 32 * l.at;
}
