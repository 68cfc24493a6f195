use Rattle.std.proofs.Common.{arith}
use Rattle.memdb.specs.Made.{item_of}
use Rattle.memdb.proofs.NameBytes.{item_named}
use Rattle.memdb.proofs.PlainTexts.{first_written}
use Rattle.memdb.proofs.made.round.write_first.Goals as goal

pub returns : goal.returns
returns c =
    let named = item_named c.args.client c.args.value (omega (arith, c.ranges.client.fits)) in
    first_written c.extend_from_slice-2.result (item_of c.args.client c.args.value) c.args.out.now.items
    c.extend_from_slice.new.self.items c.write_name.new.out.items c.extend_from_slice-2.new.self.items named
    c.in_ok-extend_from_slice.ensures.items c.in_ok-write_name.ensures c.extend_from_slice-2.ensures.items
