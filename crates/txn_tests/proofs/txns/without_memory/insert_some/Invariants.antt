use Rattle.std.proofs.Common.{◌≡◌}
use Rattle.mem_txn.specs.Transactions.{txn_of}
use Rattle.txn_tests.proofs.txns.without_memory.insert_some.Given as goal

abbrev pub invariant-loop-place : goal.invariant-loop-place
invariant-loop-place l = (txn_of l.txn).caller ≡ (txn_of l.initial.txn).caller
