use Rattle.std.proofs.Common.{◌≡◌, [], length, map}
use Rattle.std.specs.Slice.Iter.{iter_rest}
use Rattle.mdb_encode.specs.Bytes.{Bytes}
use Rattle.mdb_encode.specs.Keys.{joined_keys}
use Rattle.mdb_encode.specs.Kind.{part_indexer, part_list}
use Rattle.mdb_encode.specs.inner.KeyLength.{counted}
use Rattle.mdb_encode.specs.inner.CompoundParts.{parts_of}
use Rattle.mdb_encode.proofs.row.compound.compound_len.Given as goal

-- what stands so far has this length, and the other parts come behind it
abbrev pub invariant-loop-part : goal.invariant-loop-part
invariant-loop-part l =
    (so_far : Bytes) × (l.len ≡ counted (length so_far))
    × (joined_keys l.allow_missing [] (parts_of l.parts) l.row
    ≡ joined_keys l.allow_missing so_far (part_list (map part_indexer (iter_rest l.part-iterator))) l.row)
