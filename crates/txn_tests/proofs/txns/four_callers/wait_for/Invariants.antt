use Rattle.mem_txn.specs.CallerOf.{IsCaller}
use Rattle.txn_tests.proofs.txns.four_callers.wait_for.Given as goal

abbrev pub invariant-loop : goal.invariant-loop
invariant-loop g l = IsCaller l.db l.initial.pass.number l.pass
