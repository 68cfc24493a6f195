use Rattle.std.proofs.Common.{subst}
use Rattle.mem_txn.specs.CellHistory.{MovesAreTouches}
use Rattle.mem_txn.specs.Database.{Caller, cells_seen}
use Rattle.mem_txn.proofs.MovesTouched.{moves_touched}
use Rattle.mem_txn.proofs.pass_laws.moves_are_touches.Goals as goal

pub returns : goal.returns
returns c = subst (λ (p : Caller). MovesAreTouches (cells_seen p)) c.pass.view_is (moves_touched c.pass.inside.token c.pass.invariant.begun c.pass.invariant.steps)
