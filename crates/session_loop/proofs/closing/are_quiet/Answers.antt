use Rattle.std.proofs.Common.{◌<◌, ℕ, subst}
use Rattle.session_loop.proofs.ClosingLook.{quiet_next}
use Rattle.session_loop.proofs.closing.are_quiet.Goals as goal

pub loop-place-preserved : goal.loop-place-preserved
loop-place-preserved c =
    quiet_next c.args.front.now c.args.set.now c.loop-place.place (subst (λ (n : ℕ). c.loop-place.place < n) c.len-place-end.ensures.count c.loop-place-test.true)
    (c.is_quiet_at.ensures.quiet c.if-not-is_quiet_at.false)
    c.loop-place.invariant
