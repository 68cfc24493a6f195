use Rattle.std.proofs.Common.{subst}
use Rattle.mem_txn.specs.Checked.{IdsTellCells}
use Rattle.mem_txn.specs.Database.{Caller}
use Rattle.mem_txn.proofs.OneIdOneCell.{ids_tell}
use Rattle.mem_txn.proofs.pass_laws.ids_tell_cells.Goals as goal

pub returns : goal.returns
returns c = subst (λ (p : Caller). IdsTellCells p) c.pass.view_is (ids_tell c.pass.inside.token c.pass.invariant.begun c.pass.invariant.steps)
