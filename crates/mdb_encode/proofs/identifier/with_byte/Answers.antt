use Rattle.std.proofs.Common.{◌≡◌, ◌==◌, ◌<◌, false, length, arith, tests, rules, ap}
use Rattle.mdb_encode.specs.inner.UuidStart.{half_count}
use Rattle.mdb_encode.proofs.HexRuns.{high_digit, low_digit}
use Rattle.mdb_encode.proofs.identifier.with_byte.Goals as goal

pub returns-in-None-clause-bytes : goal.returns-in-None-clause-bytes
returns-in-None-clause-bytes c =
    let no_hyphen : (c.args.byte == 45) ≡ false = search (tests, rules) in
    λ rest. rw c.in-None.is (high_digit c.args.run.bytes c.args.run.len c.args.byte c.in_ok-digit.digit rest no_hyphen c.in_ok-digit.ensures.value)

pub returns-in-Some-clause-bytes : goal.returns-in-Some-clause-bytes
returns-in-Some-clause-bytes c =
    let no_hyphen : (c.args.byte == 45) ≡ false = search (tests, rules) in
    let half : half_count c.args.run.high ≡ 1 = ap half_count c.in-Some.is in
    let room : c.args.run.len < length c.args.run.bytes = omega arith in
    λ rest. rw c.in-Some.is (low_digit c.args.run.bytes c.args.run.len c.args.byte c.in-Some.high c.in_ok-digit.digit rest room no_hyphen c.in_ok-digit.ensures.value)
