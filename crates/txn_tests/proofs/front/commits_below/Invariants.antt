use Rattle.std.proofs.Common.{◌≡◌}
use Rattle.txn_tests.proofs.front.commits_below.Given as goal

abbrev pub invariant-loop-own : goal.invariant-loop-own
invariant-loop-own g l = (l.pass.table ≡ l.initial.pass.table) × (l.pass.stage ≡ 0) × (l.pass.number ≡ l.initial.pass.number)
