use Rattle.std.proofs.Common.{length, subst}
use Rattle.mem_txn.specs.CellHistory.{HasFirings}
use Rattle.mem_txn.specs.DbTxn.{DbTxn}
use Rattle.mem_txn.specs.Database.{cells_seen}
use Rattle.mem_txn.proofs.db_txn.DbTxn.front.Goals as goal

pub returns-clause-fired : goal.returns-clause-fired
returns-clause-fired c = subst (λ (t : DbTxn). HasFirings (cells_seen t.caller) (length t.caller.seen) c.share_front.result) c.self.view_is c.share_front.ensures.fired
