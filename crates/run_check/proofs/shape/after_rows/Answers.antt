use Rattle.run_check.proofs.FurtherRows.{one_more_taken}
use Rattle.run_check.proofs.shape.after_rows.Goals as goal

pub loop-preserved : goal.loop-preserved
loop-preserved c =
    one_more_taken c.args.count c.loop.counter c.args.at c.loop.place c.in_ok-place.place c.loop-test.true c.loop.invariant c.in_ok-place.ensures
