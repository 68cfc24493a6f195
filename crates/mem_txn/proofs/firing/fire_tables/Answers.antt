use Rattle.std.proofs.Common.{map}
use Rattle.notify_walk.proofs.Firings.{later_again}
use Rattle.mem_txn.specs.inner.Firing.{cells_in}
use Rattle.mem_txn.proofs.FiredTables.{cells_there, fired_more, notice_of}
use Rattle.mem_txn.proofs.firing.fire_tables.Goals as goal

pub fire_table-log-requires-clause-book : goal.fire_table-log-requires-clause-book
fire_table-log-requires-clause-book c =
    let tables = c.args.tables.now in
    let at = c.loop-notices.notices-index in
    let notices = c.notices-item.result in
    notice_of c.args.front.now c.loop-notices.log (map cells_in tables) at (cells_in notices) c.requires.book c.loop-notices.invariant.later (cells_there tables at notices c.loop-notices-test.true c.notices-item.is)

pub loop-notices-preserved : goal.loop-notices-preserved
loop-notices-preserved c =
    let tables = c.args.tables.now in
    let at = c.loop-notices.notices-index in
    let notices = c.notices-item.result in
    let there = cells_there tables at notices c.loop-notices-test.true c.notices-item.is in
    record {
      later = later_again _ _ _ c.loop-notices.invariant.later c.fire_table-log.ensures.later;
      fired = fired_more c.loop-notices.log c.fire_table-log.result (map cells_in tables) at (cells_in notices) there c.loop-notices.invariant.fired c.fire_table-log.ensures.later c.fire_table-log.ensures.fired;
    }
