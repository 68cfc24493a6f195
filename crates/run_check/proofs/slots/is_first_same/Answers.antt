use Rattle.std.proofs.Common.{◌∙◌, map, sym}
use Rattle.std.proofs.lemmas.Bool.{false≢true}
use Rattle.run_check.specs.inner.IndexView.{slot_of}
use Rattle.run_check.proofs.PicksSame.{first_stop}
use Rattle.run_check.proofs.slots.is_first_same.Goals as goal

pub returns-then-not-is_unchanged : goal.returns-then-not-is_unchanged
returns-then-not-is_unchanged c = (
  λ e. absurd (false≢true e),
  λ h.
      sym c.if-not-is_unchanged.true ∙ c.is_unchanged.ensures.1
      (first_stop c.args.first c.args.last c.slots.slots c.next.new.self _ (map slot_of c.args.slots)
      c.in-Some.ensures.steps c.slots.invariant.sorted c.slots.invariant.same h),
)
