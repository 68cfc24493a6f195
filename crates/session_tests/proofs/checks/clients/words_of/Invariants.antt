use Rattle.std.proofs.Common.{All}
use Rattle.run_check.specs.Checked.{HasNoFeed}
use Rattle.session_tests.proofs.checks.clients.words_of.Given as goal

abbrev pub invariant-loop-at : goal.invariant-loop-at
invariant-loop-at l = All HasNoFeed l.words
