use Rattle.std.proofs.Common.{rules, ◌∙◌, arith}
use Rattle.std.proofs.lemmas.List.{length-set}
use Rattle.db_front.proofs.LaidSlots.{laid_next}
use Rattle.db_front.proofs.make.slots_of.Goals as goal

pub loop-caller-preserved : goal.loop-caller-preserved
loop-caller-preserved g c =
    let i = c.loop-caller.invariant in (
      length-set c.loop-caller.slots.items _ _ ∙ i.0,
      laid_next c.args.card.now c.in_ok-copy.field-0 c.loop-caller.slots.items c.args.callers c.loop-caller.caller c.turn_of.result c.in_ok-copy.ensures
          (first_of (search rules, grind (arith))) (first_of (search rules, grind (arith))) i.0 c.turn_of.ensures i.1,
    )
