use Rattle.std.proofs.Common.{◌≡◌, ◌*◌}
use Rattle.memdb.specs.Made.{drawn}
use Rattle.memdb.specs.inner.MadeInputs.{scripts_from}
use Rattle.memdb.proofs.made.scripts.made_scripts.Given as goal

-- the scripts of so many clients are made, and the next is drawn on from them
abbrev pub invariant-loop-before : goal.invariant-loop-before
invariant-loop-before l = record {
  last : l.drawing ≡ drawn l.number (l.before * l.count);
  scripts : l.scripts ≡ scripts_from (record { number = l.number; clients = l.clients; count = l.count }) 1 l.before;
}
