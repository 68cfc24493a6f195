use Rattle.mem_txn.proofs.ToldAcross.{tells_whoever_holds}
use Rattle.mem_txn.proofs.pass_laws.whoever_holds_is_told.Goals as goal

pub returns : goal.returns
returns c = tells_whoever_holds
