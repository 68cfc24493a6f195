use Rattle.std.proofs.Common.{◌≡◌, drop}
use Rattle.mdb_schema.specs.Broken.{each}
use Rattle.mdb_schema.specs.Reading.{table_in}
use Rattle.mdb_schema.proofs.Each.{behind}
use Rattle.mdb_schema.proofs.read.tables_in.Given as goal

abbrev pub invariant-loop-at : goal.invariant-loop-at
invariant-loop-at l =
    each (table_in l.version) l.members ≡ behind l.tables.items (each (table_in l.version) (drop l.at l.members))
