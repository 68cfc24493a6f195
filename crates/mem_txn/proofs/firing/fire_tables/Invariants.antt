use Rattle.std.proofs.Common.{map, take}
use Rattle.watch_word.specs.Logs.{IsLater}
use Rattle.notify_walk.specs.Fired.{HaveFired}
use Rattle.mem_txn.specs.inner.Firing.{cells_in}
use Rattle.mem_txn.proofs.firing.fire_tables.Given as goal

abbrev pub invariant-loop-notices : goal.invariant-loop-notices
invariant-loop-notices l = record {
  later : IsLater l.front l.log;
  fired : HaveFired l.log (cells_in (take l.notices-index (map cells_in l.tables)));
}
