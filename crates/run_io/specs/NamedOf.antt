-- What the files that a command names stand for, as the code holds them.
use Rattle.run_io.specs.Named.{Named}
use Rattle.run_io.specs.declared.named.Named as code

abbrev pub named_of : code.Named → Named
named_of n = record { schema = n.schema; clients = n.clients }
