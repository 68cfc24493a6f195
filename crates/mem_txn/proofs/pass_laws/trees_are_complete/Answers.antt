use Rattle.std.proofs.Common.{subst}
use Rattle.mem_txn.specs.CellHistory.{AreComplete}
use Rattle.mem_txn.specs.Database.{Caller, cells_seen}
use Rattle.mem_txn.proofs.KeptAlong.{complete}
use Rattle.mem_txn.proofs.pass_laws.trees_are_complete.Goals as goal

pub returns : goal.returns
returns c = subst (λ (p : Caller). AreComplete (cells_seen p)) c.pass.view_is (complete c.pass.inside.token c.pass.invariant.begun)
