use Rattle.std.proofs.Common.{sym, subst}
use Rattle.watch_future.specs.Polls.{CanPoll}
use Rattle.txn_tests.proofs.StillCan.{still_can}
use Rattle.txn_tests.proofs.future_tasks.lists.+beside.Goals as goal

pub is_told-poll_watch-told-requires : goal.is_told-poll_watch-told-requires
is_told-poll_watch-told-requires g t c =
    subst (CanPoll c.args.db.now c.beside-two.new.one c.args.awaited.now.set) (sym c.as_ref-until.ensures.value)
    (still_can c.args.db.now 1 c.is_noted-noted.new.pass c.beside-two.new.one _ _ c.beside-two.ensures.one c.beside-two.ensures.keeps c.is_noted-noted.ensures.can)
