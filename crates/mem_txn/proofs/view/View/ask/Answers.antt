use Rattle.mem_txn.proofs.NamedTables.{named_answers}
use Rattle.mem_txn.proofs.view.View.ask.Goals as goal

pub returns-in-Some : goal.returns-in-Some
returns-in-Some c = named_answers c.args.self.now c.args.query.now c.in-Some.table.now c.in-Some.ensures.some c.ask.result c.ask.ensures
