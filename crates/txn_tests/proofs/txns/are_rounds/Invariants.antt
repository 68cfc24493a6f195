use Rattle.mem_txn.specs.CallerOf.{IsCaller}
use Rattle.txn_tests.proofs.txns.are_rounds.Given as goal

abbrev pub invariant-loop : goal.invariant-loop
invariant-loop g l = IsCaller l.db 1 l.pass
