use Rattle.std.proofs.Common.{◌≡◌, ◌∙◌, false, ap, subst}
use Rattle.mem_txn.specs.DbTxn.{DbTxn}
use Rattle.mem_txn.specs.inner.Commits.{IsNextOf}
use Rattle.mem_txn.proofs.NextVersions.{makes_next}
use Rattle.mem_txn.proofs.db_txn.DbTxn.freeze.Goals as goal

pub returns-in-Ok : goal.returns-in-Ok
returns-in-Ok c =
    let t = c.self.inside in
    let known = c.self.invariant in
    let sound : t.spoiled ≡ false = ap (λ (o : DbTxn). o.spoiled) c.self.view_is ∙ c.requires.sound in
    let next = c.in-Ok.next in
    let made = c.in-Ok.ensures in
    subst (λ (o : DbTxn). IsNextOf o t.pass next.ready next.gone.items next.changes) c.self.view_is
    (makes_next t.writes.items t.spoiled t.pass t.tables.ids (known.ids sound) made.base t.tables.tables t.number known.number (known.tables sound) (known.since sound) next.gone.items made.ends next.changes made.changes next.ready
    made.value made.within)
