use Rattle.std.proofs.Common.{subst}
use Rattle.mem_txn.specs.CellHistory.{KeepUntouched}
use Rattle.mem_txn.specs.Database.{Caller, cells_seen}
use Rattle.mem_txn.proofs.KeptAlong.{keeps_untouched}
use Rattle.mem_txn.proofs.pass_laws.untouched_is_kept.Goals as goal

pub returns : goal.returns
returns c = subst (λ (p : Caller). KeepUntouched (cells_seen p)) c.pass.view_is (keeps_untouched c.pass.inside.token c.pass.invariant.begun c.pass.invariant.steps)
