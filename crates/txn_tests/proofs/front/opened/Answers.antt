use Rattle.std.proofs.Common.{ap}
use Rattle.db_front.proofs.AllPasses.{if_so}
use Rattle.txn_tests.proofs.front.opened.Goals as goal

pub returns-clause-fresh : goal.returns-clause-fresh
returns-clause-fresh c = if_so c.make_shared.result _ _ (λ t is. (_, _, ap (λ p. p.passes) is)) c.make_shared.ensures.passes
