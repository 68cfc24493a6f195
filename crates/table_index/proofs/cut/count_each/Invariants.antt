use Rattle.std.proofs.Common.{length}
use Rattle.table_index.proofs.RowCounts.{Counts}
use Rattle.table_index.proofs.cut.count_each.Given as goal

abbrev pub invariant-rows : goal.invariant-rows
invariant-rows l = Counts l.def l.initial.listed l.listed l.seen.items

abbrev pub decreases-rows : goal.decreases-rows
decreases-rows l = length l.listed
