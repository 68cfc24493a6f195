use Rattle.std.proofs.Common.{◌≡◌}
use Rattle.mem_txn.specs.Transactions.{txn_of}
use Rattle.txn_tests.proofs.txns.steps.are_done.Given as goal

abbrev pub invariant-loop-step : goal.invariant-loop-step
invariant-loop-step l = (txn_of l.txn).caller ≡ (txn_of l.initial.txn).caller
