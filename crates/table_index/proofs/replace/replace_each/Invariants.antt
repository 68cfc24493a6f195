use Rattle.std.proofs.Common.{◌≡◌, ◌⊎◌, ◌*◌, ◌^◌, ◌++◌, drop, take, map, length}
use Rattle.std.specs.List.{zip}
use Rattle.radix_txn.specs.Txn.{txn_pairs}
use Rattle.table_index.specs.inner.Drawn.{HaveDrawn}
use Rattle.table_index.specs.inner.IndexTrees.{AreSound}
use Rattle.table_index.specs.inner.TreeEdits.{edited_each, replaced_each, replaced_in}
use Rattle.table_index.specs.inner.Writes.{TreesWrote, IsAt}
use Rattle.table_index.proofs.replace.replace_each.Given as goal

abbrev pub invariant-loop-at : goal.invariant-loop-at
invariant-loop-at l = record {
  sound : AreSound l.txns;
  same : length l.txns ≡ length l.initial.txns;
  pairs :
      take l.at (map txn_pairs l.txns) ++ edited_each (replaced_in l.row) (drop l.at (zip l.keys l.old)) (drop l.at (map txn_pairs l.txns))
      ≡ replaced_each l.row l.keys l.old (map txn_pairs l.initial.txns);
  drawn : HaveDrawn l.front (2 ^ 21 * l.at) l.initial.ids l.ids l.initial.txns l.txns;
  written : TreesWrote (λ place k. IsAt l.keys place k ⊎ IsAt l.old place k) l.initial.txns l.txns;
}
