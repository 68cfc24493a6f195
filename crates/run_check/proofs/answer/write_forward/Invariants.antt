use Rattle.std.proofs.Common.{◌≡◌, ◌++◌, drop, map}
use Rattle.std.specs.Borrow.{Bor}
use Rattle.mdb_datum.specs.Row.{Fields}
use Rattle.client_script.specs.Reply.{row_lines}
use Rattle.run_check.proofs.answer.write_forward.Given as goal

-- what was added so far, followed by the lines of the rows that are left, is the whole
abbrev pub invariant-loop-row : goal.invariant-loop-row
invariant-loop-row l = l.out.items ++ row_lines (map (λ (r : Bor Fields). r.now) (drop l.row-index l.rows)) ≡ l.initial.out.items ++ row_lines (map (λ (r : Bor Fields). r.now) l.rows)
