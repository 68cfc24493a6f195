-- What a contract sees of a held watch.
use Rattle.std.specs.Arc.{arc_value}
use Rattle.mem_txn.specs.Held.{HeldWatch}
use Rattle.mem_txn.specs.declared.held.Held.TheInside as held
use Rattle.mem_txn.specs.declared.held.Watching.TheInside as watching

abbrev pub watching_view : watching.Inside → HeldWatch
watching_view w = record { query = w.query; spot = w.spot; number = w.number }

abbrev pub held_view : held.Inside → HeldWatch
held_view h = arc_value h.watching
