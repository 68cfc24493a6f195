use Rattle.std.proofs.Common.{◌≡◌, ◌*◌, drop, false, Contains}
use Rattle.mdb_schema.specs.Edits.{without_all}
use Rattle.radix_txn.specs.Drawn.{HasDrawn}
use Rattle.radix_txn.specs.Txn.{txn_pairs}
use Rattle.table_index.specs.inner.Writes.{Wrote}
use Rattle.table_index.proofs.edits.delete_all.Given as goal

abbrev pub invariant-loop-key : goal.invariant-loop-key
invariant-loop-key l = record {
  sound : l.txn.spoiled ≡ false;
  pairs : without_all (drop l.key-index l.keys) (txn_pairs l.txn) ≡ without_all l.keys (txn_pairs l.initial.txn);
  drawn : HasDrawn l.front (4096 * l.key-index) l.initial.ids l.ids l.initial.txn l.txn;
  written : Wrote (λ k. Contains l.keys k) l.initial.txn l.txn;
}
