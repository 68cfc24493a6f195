use Rattle.std.proofs.Common.{◌≡◌, drop}
use Rattle.mdb_schema.specs.Broken.{each}
use Rattle.mdb_schema.specs.Reading.{named_index}
use Rattle.mdb_schema.proofs.Each.{behind}
use Rattle.mdb_schema.proofs.read.indexes_in.Given as goal

abbrev pub invariant-loop-at : goal.invariant-loop-at
invariant-loop-at l =
    each (named_index l.table) l.members ≡ behind l.indexes.items (each (named_index l.table) (drop l.at l.members))
