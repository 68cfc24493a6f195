use Rattle.std.proofs.Common.{◌≡◌, [], map}
use Rattle.std.specs.Slice.Iter.{iter_rest}
use Rattle.mdb_encode.specs.Keys.{joined_keys}
use Rattle.mdb_encode.specs.Kind.{part_indexer, part_list}
use Rattle.mdb_encode.specs.inner.CompoundParts.{parts_of}
use Rattle.mdb_encode.proofs.row.compound.write_parts.Given as goal

-- the other parts come behind what is written
abbrev pub invariant-loop-part : goal.invariant-loop-part
invariant-loop-part l =
    joined_keys l.allow_missing [] (parts_of l.parts) l.row
    ≡ joined_keys l.allow_missing l.bytes.items (part_list (map part_indexer (iter_rest l.part-iterator))) l.row
