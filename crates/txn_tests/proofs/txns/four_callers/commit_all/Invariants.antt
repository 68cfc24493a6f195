use Rattle.mem_txn.specs.CallerOf.{IsCaller}
use Rattle.txn_tests.proofs.txns.four_callers.commit_all.Given as goal

abbrev pub invariant-loop-turn : goal.invariant-loop-turn
invariant-loop-turn g l = IsCaller l.db l.initial.pass.number l.pass
