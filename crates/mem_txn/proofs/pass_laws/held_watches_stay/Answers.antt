use Rattle.mem_txn.proofs.HeldAlong.{held_stays}
use Rattle.mem_txn.proofs.pass_laws.held_watches_stay.Goals as goal

pub returns : goal.returns
returns c = held_stays c.args.pass.now
