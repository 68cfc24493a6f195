use Rattle.memdb.specs.Made.{item_of}
use Rattle.memdb.proofs.RoundParts.{round_written}
use Rattle.memdb.proofs.made.round.write_round.Goals as goal

pub returns : goal.returns
returns c =
    round_written c.extend_from_slice-3.result (item_of c.args.client c.args.value) c.args.out.now.items
    c.extend_from_slice.new.self.items c.write_insert.new.out.items c.extend_from_slice-2.new.self.items c.write_first.new.out.items c.extend_from_slice-3.new.self.items
    c.in_ok-extend_from_slice.ensures.items c.in_ok-write_insert.ensures c.in_ok-extend_from_slice-2.ensures.items c.in_ok-write_first.ensures c.extend_from_slice-3.ensures.items
