-- Each cell is of the book.
use Rattle.std.proofs.Common.{map}
use Rattle.std.specs.Arc.{arc_value}
use Rattle.notify_walk.proofs.Firings.{got_map, of_at}
use Rattle.tree_tests.proofs.firings.count_fired.Goals as goal

pub has_moved-requires : goal.has_moved-requires
has_moved-requires c =
    let i = c.loop-cell.cell-index in
    of_at (map arc_value c.args.cells.now) i (arc_value c.cell-item.result) c.args.front.now.book c.requires (got_map arc_value c.args.cells.now i c.cell-item.result c.loop-cell-test.true c.cell-item.is)
