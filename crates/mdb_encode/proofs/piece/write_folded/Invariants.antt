use Rattle.std.proofs.Common.{◌≡◌, ◌++◌, take}
use Rattle.std.specs.Str.{str_to_ascii_lowercase}
use Rattle.mdb_encode.proofs.piece.write_folded.Given as goal

abbrev pub invariant-loop-byte : goal.invariant-loop-byte
invariant-loop-byte l =
    l.key.items ≡ l.fn.key.items ++ str_to_ascii_lowercase (take l.byte-index l.bytes)
