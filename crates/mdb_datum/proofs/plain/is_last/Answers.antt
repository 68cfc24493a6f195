use Rattle.std.proofs.Common.{◌≡◌, ◌<◌, length, Less, rules}
use Rattle.mdb_datum.specs.Bytes.{byte_order}
use Rattle.mdb_datum.proofs.ByteOrder.{less_from_is_lt}
use Rattle.mdb_datum.proofs.MemberPlaces.{place_last}
use Rattle.mdb_datum.proofs.plain.is_last.Goals as goal

pub returns-else-count-eq0 : goal.returns-else-count-eq0
returns-else-count-eq0 c greater =
    let last = c.index-pairs-count.result in
    let some : 0 < length c.args.pairs.now = search rules in
    let less : byte_order last.0 c.args.name.now ≡ Less = less_from_is_lt _ (search rules) in
    place_last c.args.pairs.now c.args.name.now c.requires last some (search rules) less
