use Rattle.std.proofs.Common.{◌∙◌}
use Rattle.run_io.proofs.Pieces.{grows_front, front_within}
use Rattle.run_io.proofs.write.write_all.Goals as goal

pub loop-written-preserved : goal.loop-written-preserved
loop-written-preserved g c =
    let text = c.args.text.now in
    let at = c.loop-written.written in
    record {
      within = front_within text at _ c.loop-written.invariant.within c.in_ok-written.ensures.bound.1;
      no_fault = c.in_ok-written.ensures.cause.kept ∙ c.loop-written.invariant.no_fault;
      grown = grows_front _ _ _ text at _ c.loop-written.invariant.grown c.in_ok-written.ensures.grown;
    }
