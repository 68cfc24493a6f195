use Rattle.std.proofs.Common.{ℕ}
use Rattle.run_check.proofs.Rising.{between_decides}
use Rattle.run_check.proofs.index.Index.is_touched.Goals as goal

pub returns : goal.returns
returns c = between_decides (λ (j : ℕ). j) c.args.after c.args.last c.args.self.now.touched _ _
    c.count_touched.ensures.bound c.count_touched-2.ensures.bound c.count_touched.ensures.parted c.count_touched-2.ensures.parted
