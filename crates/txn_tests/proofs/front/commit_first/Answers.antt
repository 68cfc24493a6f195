use Rattle.std.proofs.Common.{ap}
use Rattle.db_front.proofs.AllPasses.{all_turned}
use Rattle.db_front.proofs.IdlePasses.{idle_turned}
use Rattle.txn_tests.proofs.front.commit_first.Goals as goal

pub returns-clause-idle : goal.returns-clause-idle
returns-clause-idle g c =
    idle_turned _ _ _ _ c.in-Some.pass c.commit-done.new.pass c.requires.idle c.in-Some.ensures.rest c.commit-done.ensures.0 c.commit-done.ensures.1 (ap (λ p. p.passes) c.give.ensures)

pub returns-clause-all : goal.returns-clause-all
returns-clause-all g c =
    all_turned _ _ _ _ c.in-Some.pass c.commit-done.new.pass c.requires.all c.in-Some.ensures.rest c.commit-done.ensures.2 (ap (λ p. p.passes) c.give.ensures)
