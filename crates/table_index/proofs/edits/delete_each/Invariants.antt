use Rattle.std.proofs.Common.{◌≡◌, ◌*◌, ◌^◌, ◌++◌, drop, take, map, length}
use Rattle.radix_txn.specs.Txn.{txn_pairs}
use Rattle.table_index.specs.inner.Drawn.{HaveDrawn}
use Rattle.table_index.specs.inner.IndexTrees.{AreSound}
use Rattle.table_index.specs.inner.TreeEdits.{without_each}
use Rattle.table_index.specs.inner.Writes.{TreesWrote, IsAt}
use Rattle.table_index.proofs.edits.delete_each.Given as goal

abbrev pub invariant-loop-at : goal.invariant-loop-at
invariant-loop-at l = record {
  sound : AreSound l.txns;
  same : length l.txns ≡ length l.initial.txns;
  pairs : take l.at (map txn_pairs l.txns) ++ without_each (drop l.at l.keys) (drop l.at (map txn_pairs l.txns)) ≡ without_each l.keys (map txn_pairs l.initial.txns);
  drawn : HaveDrawn l.front (2 ^ 20 * l.at) l.initial.ids l.ids l.initial.txns l.txns;
  written : TreesWrote (IsAt l.keys) l.initial.txns l.txns;
}
