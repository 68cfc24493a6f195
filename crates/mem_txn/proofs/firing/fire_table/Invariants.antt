use Rattle.std.proofs.Common.{take}
use Rattle.watch_word.specs.Logs.{IsLater}
use Rattle.notify_walk.specs.Fired.{HaveFired}
use Rattle.mem_txn.specs.inner.Firing.{cells_in}
use Rattle.mem_txn.proofs.firing.fire_table.Given as goal

abbrev pub invariant-loop-at : goal.invariant-loop-at
invariant-loop-at l = record {
  later : IsLater l.front l.log;
  fired : HaveFired l.log (cells_in (take l.at l.notices));
}
