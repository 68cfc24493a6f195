use Rattle.mem_txn.proofs.NamedTables.{named_walks}
use Rattle.mem_txn.proofs.view.View.walk.Goals as goal

pub returns-in-Some : goal.returns-in-Some
returns-in-Some c = named_walks c.args.self.now c.args.query.now c.in-Some.table.now c.in-Some.ensures.some c.walk.result c.walk.ensures
