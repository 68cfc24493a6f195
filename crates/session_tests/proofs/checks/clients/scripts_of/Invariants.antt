use Rattle.std.proofs.Common.{All}
use Rattle.run_check.specs.Checked.{IsRead}
use Rattle.session_tests.proofs.checks.clients.scripts_of.Given as goal

abbrev pub invariant-loop-at : goal.invariant-loop-at
invariant-loop-at l = All IsRead l.scripts
