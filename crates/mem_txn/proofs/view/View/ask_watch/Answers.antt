use Rattle.mem_txn.proofs.NamedTables.{named_cell, named_spot, named_watch}
use Rattle.mem_txn.proofs.view.View.ask_watch.Goals as goal

pub returns-in-Some-clause-answers : goal.returns-in-Some-clause-answers
returns-in-Some-clause-answers c = named_watch c.args.self.now c.args.query.now c.in-Some.table.now c.in-Some.ensures.some c.ask_watch.result c.ask_watch.ensures.answers

pub returns-in-Some-clause-cell : goal.returns-in-Some-clause-cell
returns-in-Some-clause-cell c = named_cell c.args.self.now c.args.query.now c.in-Some.table.now c.in-Some.ensures.some c.ask_watch.result c.ask_watch.ensures.answers c.ask_watch.ensures.spot

pub returns-in-Some-clause-looked : goal.returns-in-Some-clause-looked
returns-in-Some-clause-looked c = named_spot c.args.self.now c.args.query.now c.in-Some.table.now c.in-Some.ensures.some c.ask_watch.result c.ask_watch.ensures.spot
