use Rattle.std.specs.Io.KnownBytes.{Keeps}
use Rattle.mdb_ports.proofs.retry.write_retrying.Given as goal

-- interrupted writes have added nothing
abbrev pub invariant-loop : goal.invariant-loop
invariant-loop g l = Keeps (g.W.Write.contents l.initial.to) (g.W.Write.contents l.to)
