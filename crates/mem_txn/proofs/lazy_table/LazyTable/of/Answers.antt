use Rattle.std.specs.Arc.{arc_value}
use Rattle.mem_txn.proofs.BegunTables.{nothing_changed}
use Rattle.mem_txn.proofs.lazy_table.LazyTable.of.Goals as goal

pub returns-clause-changed : goal.returns-clause-changed
returns-clause-changed c = nothing_changed c.deref.result.now (arc_value c.args.shared) c.deref.ensures c.nothing_is_written.ensures
