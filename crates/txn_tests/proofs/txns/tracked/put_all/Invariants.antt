use Rattle.std.proofs.Common.{◌≡◌}
use Rattle.mem_txn.specs.Transactions.{txn_of}
use Rattle.txn_tests.proofs.txns.tracked.put_all.Given as goal

abbrev pub invariant-loop-number : goal.invariant-loop-number
invariant-loop-number l = (txn_of l.txn).caller ≡ (txn_of l.initial.txn).caller
