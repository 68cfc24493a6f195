use Rattle.std.proofs.Common.{◌*◌, ◌^◌, List, OnOk, length, subst}
use Rattle.radix_txn.specs.Txn.{Txn}
use Rattle.table_index.specs.inner.Drawn.{HaveDrawn}
use Rattle.table_index.specs.inner.Wipes.{gone_at}
use Rattle.table_index.specs.inner.Writes.{WroteRows}
use Rattle.table_index.proofs.DrawnIds.{idle_drawn}
use Rattle.table_index.proofs.listed.wipe_listed.Goals as goal

pub returns-in_err-tree-clause-drawn : goal.returns-in_err-tree-clause-drawn
returns-in_err-tree-clause-drawn c =
    let gone = gone_at c.args.def.now c.args.txns.now c.args.place c.args.key.now in
    idle_drawn c.args.front.now (2 ^ 26 * length gone) c.args.ids.now c.args.txns.now c.stand_at.new.txns c.stand_at.ensures.unchanged c.requires.ready.within

-- the tree stands, and the trees are as they were
pub returns-clause-drawn : goal.returns-clause-drawn
returns-clause-drawn c =
    subst
    (λ (txns : List Txn).
    HaveDrawn c.args.front.now (2 ^ 26 * length (gone_at c.args.def.now txns c.args.place c.args.key.now)) c.args.ids.now c.wipe_standing.new.ids txns c.wipe_standing.new.txns)
    c.stand_at.ensures.unchanged c.wipe_standing.ensures.drawn

pub returns-clause-written : goal.returns-clause-written
returns-clause-written c =
    let t = c.args.def.now in
    subst (λ (txns : List Txn). OnOk c.wipe_standing.result (WroteRows t (gone_at t txns c.args.place c.args.key.now) txns c.wipe_standing.new.txns)) c.stand_at.ensures.unchanged c.wipe_standing.ensures.written
