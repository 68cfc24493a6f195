use Rattle.std.proofs.Common.{rules, ◌∙◌, ap, sym, subst}
use mathlib.Core.Option.{none}
use Rattle.atomic_table.specs.Table.{step}
use Rattle.db_front.proofs.TurnSteps.{lays_back}
use Rattle.db_front.proofs.WholeSeats.{back_is, turn_in}
use Rattle.db_front.proofs.turns.give.Goals as goal

pub store-requires : goal.store-requires
store-requires g c = let now = c.exchange-gone.ensures.3 in (
  search rules,
  turn_in _ _ _ c.requires.table.1.0 c.requires.turn,
  lays_back g.V.Version.stands g.V.Version.fired _ _ _ _ _ c.args.card _ _ (ap (λ m. m.0.outs) now ∙ c.requires.out) (ap (λ m. m.1) now)
      (subst (λ h. g.V.Version.stands h c.args.card.0) (sym (ap (λ m. m.0.seen) now)) c.requires.stands),
)

pub wake-requires : goal.wake-requires
wake-requires g c = turn_in _ _ _ c.requires.table.1.0 c.requires.turn

pub returns-clause-gave : goal.returns-clause-gave
returns-clause-gave g c = back_is g.V.Version.stands g.V.Version.fired (step 0 0 0 0 none) c.exchange-gone.new.seat.me _ _ _ _ _ 0 c.exchange-gone.ensures.3 c.store.ensures.2
