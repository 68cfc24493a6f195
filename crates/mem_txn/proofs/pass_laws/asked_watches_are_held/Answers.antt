use Rattle.mem_txn.proofs.HeldAlong.{asked_is_held}
use Rattle.mem_txn.proofs.pass_laws.asked_watches_are_held.Goals as goal

pub returns : goal.returns
returns c = asked_is_held c.args.pass.now
