use Rattle.std.proofs.Common.{◌≡◌, ◌+◌, map, take, arith}
use Rattle.std.proofs.lemmas.Grind.{common_steps}
use Rattle.std.specs.Arc.{arc_value}
use Rattle.mem_txn.specs.inner.VersionTables.{unwritten}
use Rattle.mem_txn.proofs.BegunTables.{one_more_unchanged}
use Rattle.mem_txn.proofs.txn_tables.unwritten.Goals as goal

pub loop-table-preserved : goal.loop-table-preserved
loop-table-preserved c =
    let shared = c.args.shared.now in
    let items : c.push.new.self.items ≡ map unwritten (map arc_value (take (c.loop-table.table-index + 1) shared)) = grind (arith, common_steps) in (
      items,
      λ first. one_more_unchanged first c.loop-table.tables.items c.push.new.self.items c.of.result c.in_ok-push.ensures.items (c.loop-table.invariant.1 first) (c.of.ensures.changed first),
    )
