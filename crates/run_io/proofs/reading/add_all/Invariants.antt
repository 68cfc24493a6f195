use Rattle.std.proofs.Common.{◌≡◌, ◌++◌, length}
use Rattle.run_io.proofs.reading.add_all.Given as goal

-- the scripts so far, and those that are still to be added
abbrev pub invariant-loop-script : goal.invariant-loop-script
invariant-loop-script l = l.scripts ++ l.more ≡ l.fn.scripts ++ l.fn.more

abbrev pub decreases-loop-script : goal.decreases-loop-script
decreases-loop-script l = length l.more
