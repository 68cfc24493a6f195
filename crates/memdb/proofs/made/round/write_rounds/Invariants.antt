use Rattle.std.proofs.Common.{◌≡◌, ◌++◌}
use Rattle.memdb.specs.Made.{drawn}
use Rattle.memdb.proofs.DrawnNumbers.{text_of}
use Rattle.memdb.proofs.made.round.write_rounds.Given as goal

-- so many rounds are written, each drawn in turn
abbrev pub invariant-loop : goal.invariant-loop
invariant-loop l = record {
  last : l.drawing ≡ drawn l.fn.drawing l.counter;
  text : l.out.items ≡ l.fn.out.items ++ text_of l.fn.drawing l.client l.counter;
}
