use Rattle.std.proofs.Common.{◌≡◌, ◌+◌, drop}
use Rattle.memdb.specs.inner.MadeInputs.{ages_in}
use Rattle.memdb.proofs.made.tally.sum_of_ages.Given as goal

-- the sum so far, with the ages of the other rows, is that of all
abbrev pub invariant-loop-at : goal.invariant-loop-at
invariant-loop-at l = l.sum + ages_in (drop l.at l.rows) ≡ ages_in l.rows
