use Rattle.std.specs.Io.KnownBytes.{Keeps}
use Rattle.mdb_ports.proofs.retry.read_retrying.Given as goal

-- interrupted reads have taken nothing
abbrev pub invariant-loop : goal.invariant-loop
invariant-loop g l = Keeps (g.R.Read.remaining l.initial.from) (g.R.Read.remaining l.from)
