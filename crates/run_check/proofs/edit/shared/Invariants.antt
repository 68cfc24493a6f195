use Rattle.std.proofs.Common.{◌≡◌, map, take}
use Rattle.std.specs.Borrow.{Bor}
use Rattle.mdb_datum.specs.Row.{Fields}
use Rattle.run_check.proofs.edit.shared.Given as goal

abbrev pub invariant-loop-row : goal.invariant-loop-row
invariant-loop-row l = l.rows.items ≡ map (λ (r : Bor Fields). r.now) (take l.row-index l.found)
