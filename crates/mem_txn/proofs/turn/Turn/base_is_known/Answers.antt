use Rattle.std.proofs.Common.{subst}
use Rattle.std.specs.Arc.{arc_value}
use Rattle.mem_txn.specs.inner.DbTxnView.{IsBase}
use Rattle.mem_txn.specs.inner.Versions.{Turned, caller_of}
use Rattle.mem_txn.proofs.turn.Turn.base_is_known.Goals as goal

pub returns : goal.returns
returns c =
    let t = c.self.inside in
    let stands = c.self.invariant.stands in
    let turn : Turned = record { caller = caller_of t.token; base = arc_value t.base } in
    let known : IsBase turn = record { view = stands.view; within = stands.within; held = stands.held } in
    subst IsBase c.self.view_is known
