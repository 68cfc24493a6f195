use Rattle.std.proofs.Common.{ap}
use Rattle.db_front.specs.Passes.{PassList}
use Rattle.mem_txn.specs.inner.Versions.{Version}
use Rattle.mem_txn.proofs.OneHistory.{given_tokens}
use Rattle.mem_txn.proofs.passes.Passes.give.Goals as goal

pub invariant_of-self : goal.invariant_of-self
invariant_of-self c = given_tokens c.self.inside.list.passes c.give.new.self.passes c.pass.inside.token c.self.invariant c.pass.invariant (ap (λ (h : PassList Version). h.passes) c.give.ensures)
