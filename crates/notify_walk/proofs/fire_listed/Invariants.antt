use Rattle.std.proofs.Common.{map, take}
use Rattle.std.specs.Arc.{arc_value}
use Rattle.watch_word.specs.Logs.{AreDistinct, IsLater}
use Rattle.notify_walk.specs.Fired.{HaveFired}
use Rattle.notify_walk.proofs.fire_listed.Given as goal

abbrev pub invariant-loop-cell : goal.invariant-loop-cell
invariant-loop-cell l = record {
  later : IsLater l.front l.log;
  fired : HaveFired l.log (take l.cell-index (map arc_value l.cells));
  once : AreDistinct l.log.fired;
}
