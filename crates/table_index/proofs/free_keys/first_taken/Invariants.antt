use Rattle.std.proofs.Common.{◌≡◌, drop, map}
use Rattle.std.specs.List.{zip}
use Rattle.radix_txn.specs.Txn.{txn_pairs}
use Rattle.table_index.specs.inner.PutKeys.{first_taken}
use Rattle.table_index.proofs.free_keys.first_taken.Given as goal

-- no tree so far has one
abbrev pub invariant-loop-at : goal.invariant-loop-at
invariant-loop-at l =
    first_taken 0 (zip l.keys l.old) (map txn_pairs l.txns) ≡ first_taken l.at (drop l.at (zip l.keys l.old)) (drop l.at (map txn_pairs l.txns))
