use Rattle.std.proofs.Common.{◌≡◌, drop}
use Rattle.radix_txn.specs.Txn.{txn_pairs}
use Rattle.table_index.specs.inner.PutKeys.{has_taken}
use Rattle.table_index.proofs.free_keys.has_taken.Given as goal

-- no key so far is taken
abbrev pub invariant-loop-key : goal.invariant-loop-key
invariant-loop-key l = has_taken (l.keys, l.old) (txn_pairs l.txn) ≡ has_taken (drop l.key-index l.keys, l.old) (txn_pairs l.txn)
