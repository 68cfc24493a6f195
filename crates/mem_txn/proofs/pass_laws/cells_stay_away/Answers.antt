use Rattle.std.proofs.Common.{subst}
use Rattle.mem_txn.specs.CellHistory.{StayAway}
use Rattle.mem_txn.specs.Database.{Caller, cells_seen}
use Rattle.mem_txn.proofs.KeptAlong.{stays_away}
use Rattle.mem_txn.proofs.pass_laws.cells_stay_away.Goals as goal

pub returns : goal.returns
returns c = subst (λ (p : Caller). StayAway (cells_seen p)) c.pass.view_is (stays_away c.pass.inside.token c.pass.invariant.begun c.pass.invariant.steps)
