use Rattle.std.proofs.Common.{◌≡◌, drop, map}
use Rattle.mdb_encode.specs.Kind.{part_indexer}
use Rattle.mdb_schema.specs.Broken.{each}
use Rattle.mdb_schema.specs.Reading.{part_in}
use Rattle.mdb_schema.proofs.Each.{behind}
use Rattle.mdb_schema.proofs.indexer.parts_in.Given as goal

abbrev pub invariant-loop-at : goal.invariant-loop-at
invariant-loop-at l =
    each part_in l.documents ≡ behind (map part_indexer l.parts.items) (each part_in (drop l.at l.documents))
