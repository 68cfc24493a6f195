use Rattle.run_check.proofs.CommitVersions.{written_decides}
use Rattle.run_check.proofs.slot.Slot.is_touched.Goals as goal

pub returns : goal.returns
returns c = written_decides c.args.after c.args.last c.args.self.now _ _
    c.count_after.ensures.bound c.count_after-2.ensures.bound
    c.count_after.ensures.parted c.count_after-2.ensures.parted
