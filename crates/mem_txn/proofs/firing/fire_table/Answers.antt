use Rattle.std.proofs.Common.{rules}
use Rattle.notify_walk.proofs.Firings.{later_again}
use Rattle.mem_txn.proofs.FiredTables.{fired_more, notice_of}
use Rattle.mem_txn.proofs.firing.fire_table.Goals as goal

pub fire_all-log-requires-clause-book : goal.fire_all-log-requires-clause-book
fire_all-log-requires-clause-book c =
    notice_of c.args.front.now c.loop-at.log c.args.notices.now c.loop-at.at c.unwrap-notice.result.now c.requires.book c.loop-at.invariant.later (search rules)

pub loop-at-preserved : goal.loop-at-preserved
loop-at-preserved c = record {
  later = later_again _ _ _ c.loop-at.invariant.later c.fire_all-log.ensures.later;
  fired = fired_more c.loop-at.log c.fire_all-log.result c.args.notices.now c.loop-at.at c.unwrap-notice.result.now (search rules) c.loop-at.invariant.fired c.fire_all-log.ensures.later c.fire_all-log.ensures.fired;
}
