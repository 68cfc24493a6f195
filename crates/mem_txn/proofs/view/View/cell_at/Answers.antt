use Rattle.std.specs.Arc.{arc_value}
use Rattle.mem_txn.proofs.NamedTables.{named_again, named_index}
use Rattle.mem_txn.proofs.view.View.cell_at.Goals as goal

pub cell_at-requires : goal.cell_at-requires
cell_at-requires c = named_index c.args.self.now c.args.query.now c.in-Some.table.now c.in-Some.ensures.some c.args.spot.now c.requires

pub returns : goal.returns
returns c = named_again c.args.self.now c.args.query.now c.in-Some.table.now c.in-Some.ensures.some c.args.spot.now c.requires (arc_value c.cell_at.result.now) c.cell_at.ensures
