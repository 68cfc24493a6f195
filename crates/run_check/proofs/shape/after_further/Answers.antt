use Rattle.run_check.proofs.FurtherRows.{one_further}
use Rattle.run_check.proofs.shape.after_further.Goals as goal

pub loop-behind-preserved : goal.loop-behind-preserved
loop-behind-preserved c = one_further c.args.at c.loop-behind.place c.in-Ok.behind c.loop-behind.invariant c.in-Ok.ensures
