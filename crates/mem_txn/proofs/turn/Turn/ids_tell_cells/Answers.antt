use Rattle.std.proofs.Common.{subst}
use Rattle.mem_txn.specs.Checked.{IdsTellCells}
use Rattle.mem_txn.specs.inner.Versions.{Turned}
use Rattle.mem_txn.proofs.OneIdOneCell.{ids_tell}
use Rattle.mem_txn.proofs.turn.Turn.ids_tell_cells.Goals as goal

pub returns : goal.returns
returns c = subst (λ (t : Turned). IdsTellCells t.caller) c.self.view_is (ids_tell c.self.inside.token c.self.invariant.token.begun c.self.invariant.token.steps)
