use Rattle.std.proofs.Common.{subst}
use Rattle.mem_txn.specs.CellHistory.{WatchesHold}
use Rattle.mem_txn.specs.Database.{Caller, cells_seen}
use Rattle.mem_txn.proofs.AlongHistory.{watches_hold}
use Rattle.mem_txn.proofs.pass_laws.watches_hold.Goals as goal

pub returns : goal.returns
returns c = subst (λ (p : Caller). WatchesHold (cells_seen p)) c.pass.view_is (watches_hold c.pass.inside.token c.pass.invariant.begun c.pass.invariant.steps)
