use Rattle.std.proofs.Common.{◌≡◌, ◌+◌, ◌≤◌, map, []}
use Rattle.std.specs.Prelude.{replicate}
use Rattle.radix_node.specs.Nodes.{pairs_of}
use Rattle.table_index.specs.Table.{AreAllBelow, AreAllOf, AreNewInTurn}
use Rattle.table_index.specs.inner.IndexTrees.{plains}
use Rattle.table_index.proofs.trees.empty_trees.Given as goal

abbrev pub invariant-loop-at : goal.invariant-loop-at
invariant-loop-at l = record {
  pairs : map pairs_of (plains l.trees.items) ≡ replicate l.at [];
  below : AreAllBelow l.ids.next l.trees.items;
  of : AreAllOf l.initial.ids.book l.trees.items;
  drawn : AreNewInTurn l.front l.initial.ids l.ids l.trees.items;
  book : l.ids.book ≡ l.initial.ids.book;
  later : l.initial.ids.next ≤ l.ids.next;
  few : l.ids.next ≤ l.initial.ids.next + l.at;
}
