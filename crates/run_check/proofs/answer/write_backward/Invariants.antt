use Rattle.std.proofs.Common.{◌≡◌, ◌≤◌, ◌++◌, length, map, take}
use Rattle.std.specs.Borrow.{Bor}
use Rattle.std.specs.Prelude.{reverse}
use Rattle.mdb_datum.specs.Row.{Fields}
use Rattle.client_script.specs.Reply.{row_lines}
use Rattle.run_check.proofs.answer.write_backward.Given as goal

-- what was added so far, followed by the lines of the rows that are left, is the whole
abbrev pub invariant-loop-left : goal.invariant-loop-left
invariant-loop-left l = record {
  within : l.left ≤ length l.rows;
  added : l.out.items ++ row_lines (reverse (map (λ (r : Bor Fields). r.now) (take l.left l.rows))) ≡ l.initial.out.items ++ row_lines (reverse (map (λ (r : Bor Fields). r.now) l.rows));
}

abbrev pub decreases-loop-left : goal.decreases-loop-left
decreases-loop-left l = l.left
