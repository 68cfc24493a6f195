use Rattle.std.proofs.Common.{length}
use Rattle.table_tests.proofs.tests.told.rows_of.Given as goal

abbrev pub decreases-loop-rows : goal.decreases-loop-rows
decreases-loop-rows l = length l.walk
