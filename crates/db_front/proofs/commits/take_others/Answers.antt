use Rattle.std.proofs.Common.{rules, sym, subst, arith, ◌<◌}
use Rattle.db_front.proofs.Stacks.{holds_next}
use Rattle.db_front.proofs.commits.take_others.Goals as goal

pub loop-caller-preserved : goal.loop-caller-preserved
loop-caller-preserved g c = (
  search rules,
  search rules,
  holds_next g.V.Version.stands g.V.Version.fired c.loop-caller.caller c.turn_of.result c.args.place.now.me.0 c.loop-caller.place c.take_shown.new.place (first_of (search rules, grind (arith))) c.turn_of.ensures
      (subst (λ n. 0 < n) (sym c.requires.free.1) (omega arith)) c.loop-caller.invariant.2 c.take_shown.ensures.took,
)
