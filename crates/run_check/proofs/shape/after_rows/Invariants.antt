use Rattle.run_check.proofs.FurtherRows.{AreTaken}
use Rattle.run_check.proofs.shape.after_rows.Given as goal

-- as many further lines as turns stand before the place
abbrev pub invariant-loop : goal.invariant-loop
invariant-loop l = AreTaken l.count l.counter l.fn.at l.place
