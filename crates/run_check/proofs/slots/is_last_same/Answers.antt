use Rattle.std.proofs.Common.{◌∙◌, map, refl, sym}
use Rattle.std.proofs.lemmas.Bool.{false≢true}
use Rattle.run_check.specs.inner.IndexView.{slot_of}
use Rattle.run_check.proofs.PicksSame.{last_done, last_left, last_sorted, last_stop}
use Rattle.run_check.proofs.slots.is_last_same.Goals as goal

pub returns-then-not-is_unchanged : goal.returns-then-not-is_unchanged
returns-then-not-is_unchanged c = (
  λ e. absurd (false≢true e),
  λ h.
      sym c.if-not-is_unchanged.true ∙ c.is_unchanged.ensures.1
      (last_stop c.args.first c.args.last c.slots.slots c.next_back.new.self _ (map slot_of c.args.slots)
      c.in-Some.ensures.steps c.slots.invariant.sorted c.slots.invariant.same h),
)

pub returns-then-has_row_after : goal.returns-then-has_row_after
returns-then-has_row_after c = (
  λ e.
      last_done c.args.first c.args.last c.slots.slots c.next_back.new.self _ (map slot_of c.args.slots) c.has_row_after.result
      c.in-Some.ensures.steps c.slots.invariant.sorted c.slots.invariant.same c.has_row_after.ensures c.if-has_row_after.true
      (c.is_unchanged.ensures.0 c.if-not-is_unchanged.false),
  λ h. refl,
)

pub slots-preserved : goal.slots-preserved
slots-preserved c = record {
  same = last_left c.args.first c.args.last c.slots.slots c.next_back.new.self _ (map slot_of c.args.slots) c.has_row_after.result
      c.in-Some.ensures.steps c.slots.invariant.same c.has_row_after.ensures c.if-has_row_after.false
      (c.is_unchanged.ensures.0 c.if-not-is_unchanged.false);
  sorted = last_sorted c.args.first c.args.last c.slots.slots c.next_back.new.self _ (map slot_of c.args.slots) c.in-Some.ensures.steps c.slots.invariant.sorted;
}
