use Rattle.std.proofs.Common.{◌∙◌, arith}
use Rattle.db_front.proofs.Stacks.{holds_less, top_of}
use Rattle.db_front.proofs.commits.lay_others.Goals as goal

pub lay-requires-clause-held : goal.lay-requires-clause-held
lay-requires-clause-held g c = top_of c.loop-left.left c.turn_of.result c.args.place.now.me.0 c.loop-left.place c.loop-left-test.true c.turn_of.ensures c.loop-left.invariant.3

pub loop-left-preserved : goal.loop-left-preserved
loop-left-preserved g c =
    let few = c.loop-left.invariant.2 in (
      c.lay.ensures.seat.0 ∙ c.loop-left.invariant.0,
      c.lay.ensures.seat.1 ∙ c.loop-left.invariant.1,
      omega (arith, few),
      holds_less c.loop-left.left c.args.place.now.me.0 c.loop-left.place c.lay.new.place c.loop-left-test.true c.loop-left.invariant.3 c.lay.ensures.gave,
      c.next_copy-copy.ensures.others,
    )
