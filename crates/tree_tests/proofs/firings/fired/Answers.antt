-- The cells of the list are the notice's, or there are none.
use Rattle.std.proofs.Common.{ap, map}
use Rattle.std.specs.Arc.{arc_value}
use Rattle.notify_walk.proofs.Firings.{listed_of}
use Rattle.tree_tests.proofs.firings.fired.Goals as goal

pub count_fired-requires : goal.count_fired-requires
count_fired-requires c = listed_of c.args.front.now.book c.args.notice.now (map arc_value c.cells.result.now) c.cells.ensures.listed (λ more. ap (map arc_value) (c.cells.ensures.beyond more)) c.requires
