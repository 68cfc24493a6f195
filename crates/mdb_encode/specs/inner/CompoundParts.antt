-- The parts of a compound indexer in memory.
use Rattle.mdb_encode.specs.Indexer.{PartList}
use Rattle.mdb_encode.specs.Kind.{indexers_of, part_list}
use Rattle.mdb_encode.specs.declared.kind.parts.Parts.{Parts}

-- as a compound indexer holds them
abbrev pub parts_of : Parts → PartList
parts_of ps = part_list (indexers_of ps)
