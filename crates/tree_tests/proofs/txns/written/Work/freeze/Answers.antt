-- The cells of the notice are those of the tree that the transaction began with.
use Rattle.std.proofs.Common.{refl}
use Rattle.notify_walk.proofs.Firings.{notice_from}
use Rattle.tree_tests.proofs.txns.written.Work.freeze.Goals as goal

pub returns-clause-notice : goal.returns-clause-notice
returns-clause-notice c =
    let w = c.self.inside in
    let i = c.self.invariant in
    notice_from w.ids.book w.front.book c.in_ok-tree.notice w.txn.start w.txn.start w.txn.tree i.0 refl c.in_ok-tree.ensures i.4
