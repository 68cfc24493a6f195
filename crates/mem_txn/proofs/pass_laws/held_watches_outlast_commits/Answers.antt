use Rattle.mem_txn.proofs.HeldAlong.{held_longer}
use Rattle.mem_txn.proofs.pass_laws.held_watches_outlast_commits.Goals as goal

pub returns : goal.returns
returns c = held_longer c.args.pass.now
