use Rattle.std.proofs.Common.{◌≡◌, ◌-◌}
use Rattle.txn_tests.proofs.front.long.at_work.Given as goal

abbrev pub invariant-loop-looks : goal.invariant-loop-looks
invariant-loop-looks g l = (l.pass.table ≡ l.initial.pass.table) × (l.pass.stage ≡ 0) × (l.pass.number ≡ l.initial.pass.number)

abbrev pub decreases-loop-looks : goal.decreases-loop-looks
decreases-loop-looks g l = 100000 - l.looks
