use Rattle.std.proofs.Common.{length}
use Rattle.run_check.proofs.FurtherRows.{AreFurther}
use Rattle.run_check.proofs.shape.after_further.Given as goal

-- further lines stand before the place
abbrev pub invariant-loop-behind : goal.invariant-loop-behind
invariant-loop-behind l = AreFurther l.fn.at l.place

abbrev pub decreases-loop-behind : goal.decreases-loop-behind
decreases-loop-behind l = length l.place.rest.now
