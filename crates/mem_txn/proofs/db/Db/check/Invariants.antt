use Rattle.mem_txn.specs.Checked.{IsHeldBy}
use Rattle.mem_txn.specs.Database.{IsOf}
use Rattle.mem_txn.proofs.OneLook.{IsSoFar}
use Rattle.mem_txn.proofs.db.Db.check.Given as goal

abbrev pub invariant-loop : goal.invariant-loop
invariant-loop g l = record {
  own : IsOf l.self l.pass;
  held : IsHeldBy l.pass l.held;
  so : IsSoFar l.initial.pass l.held l.pass;
}
