use Rattle.std.proofs.Common.{◌≡◌, drop}
use Rattle.mdb_encode.specs.Arguments.{hex_bytes}
use Rattle.mdb_encode.specs.inner.UuidStart.{digits_in, hex_after, IsRun}
use Rattle.mdb_encode.proofs.identifier.parse_digits.Given as goal

abbrev pub invariant-loop-count : goal.invariant-loop-count
invariant-loop-count l =
    IsRun l.count l.run
    × (hex_bytes (digits_in l.text) ≡ hex_after l.run (digits_in (drop l.count l.text)))
