use Rattle.std.proofs.Common.{arith}
use Rattle.mdb_encode.proofs.BigEndian.{big_endian_more}
use Rattle.mdb_encode.proofs.piece.write_number.Goals as goal

pub loop-left-preserved : goal.loop-left-preserved
loop-left-preserved c =
    (omega arith, big_endian_more c.loop-left.left c.args.number _ _ _ c.loop-left-test.true c.loop-left.invariant.1 c.in_ok-push.ensures.items)
