use Rattle.std.proofs.Common.{subst}
use Rattle.mem_txn.specs.CellHistory.{IdsTell}
use Rattle.mem_txn.specs.Database.{Caller, cells_seen}
use Rattle.mem_txn.proofs.OneIdOneCell.{all_tell}
use Rattle.mem_txn.proofs.pass_laws.equal_ids_are_equal_cells.Goals as goal

pub returns : goal.returns
returns c = subst (λ (p : Caller). IdsTell (cells_seen p)) c.pass.view_is (all_tell c.pass.inside.token c.pass.invariant.begun c.pass.invariant.steps)
