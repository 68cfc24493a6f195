use Rattle.std.proofs.Common.{◌≡◌, ◌++◌, length}
use Rattle.table_index.proofs.answer.gather.Given as goal

abbrev pub invariant-loop-rows : goal.invariant-loop-rows
invariant-loop-rows l = l.rows ++ l.walk ≡ l.initial.walk

abbrev pub decreases-loop-rows : goal.decreases-loop-rows
decreases-loop-rows l = length l.walk
