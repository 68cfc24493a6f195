use Rattle.std.proofs.Common.{◌≡◌}
use Rattle.mem_txn.specs.Transactions.{txn_of}
use Rattle.txn_tests.proofs.txns.long_run.operate_often.Given as goal

abbrev pub invariant-loop : goal.invariant-loop
invariant-loop l = (txn_of l.txn).caller ≡ (txn_of l.initial.txn).caller
