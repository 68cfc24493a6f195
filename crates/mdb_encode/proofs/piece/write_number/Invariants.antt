use Rattle.std.proofs.Common.{◌≡◌, ◌++◌, ◌≤◌}
use Rattle.mdb_encode.specs.Keys.{big_endian}
use Rattle.mdb_encode.specs.Kind.{width_bytes}
use Rattle.mdb_encode.proofs.piece.write_number.Given as goal

-- the bytes that are still to come
abbrev pub invariant-loop-left : goal.invariant-loop-left
invariant-loop-left l =
    (l.left ≤ 8)
    × (l.key.items ++ big_endian l.left l.number ≡ l.fn.key.items ++ big_endian (width_bytes l.fn.width) l.number)

abbrev pub decreases-loop-left : goal.decreases-loop-left
decreases-loop-left l = l.left
