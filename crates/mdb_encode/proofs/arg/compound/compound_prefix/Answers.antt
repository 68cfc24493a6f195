use Rattle.std.proofs.Common.{◌≡◌, ◌≤◌, ◌<◌, ◌&&◌, true, nat_lt, nat_le, length, arith}
use Rattle.std.proofs.lemmas.Bool.Decides.{nat_tests}
use Rattle.mdb_encode.specs.Arguments.{part_count}
use Rattle.mdb_encode.specs.Kind.{indexers_of, part_list}
use Rattle.mdb_encode.proofs.Forms.{part_count_list}
use Rattle.mdb_encode.proofs.arg.compound.compound_prefix.Goals as goal

pub returns : goal.returns
returns c =
    let parts = indexers_of c.args.parts.now in
    let n = length c.args.args.now in
    let m = part_count (part_list parts) in
    let count : m ≡ length parts = part_count_list parts in
    let some : 0 < n = omega (arith, c.len.ensures) in
    let room : n ≤ m = omega (arith, count, c.len-2.ensures, c.len-3.ensures) in
    let fits : (nat_lt 0 n && nat_le n m) ≡ true = grind (arith, nat_tests) in
    rw fits c.compound_arg.ensures
