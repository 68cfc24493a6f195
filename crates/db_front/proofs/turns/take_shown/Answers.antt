use Rattle.std.proofs.Common.{rules, ap, ◌∙◌, subst}
use mathlib.Core.Option.{none}
use Rattle.atomic_table.specs.Table.{step}
use Rattle.db_front.specs.Steps.{TriesShown}
use Rattle.db_front.proofs.TurnSteps.{takes_as}
use Rattle.db_front.proofs.WholeSeats.{turn_in}
use Rattle.db_front.proofs.turns.take_shown.Goals as goal

pub compare_exchange-found-requires : goal.compare_exchange-found-requires
compare_exchange-found-requires g c = (
  search rules,
  turn_in _ _ _ c.requires.table.1.0 c.requires.turn,
  takes_as g.V.Version.stands g.V.Version.fired _ _ _ _ _ _ (ap (λ m. m.0.number) c.loop.invariant.2 ∙ c.requires.own.0) c.requires.own.1 c.requires.turn,
)

pub rest-requires : goal.rest-requires
rest-requires g c = turn_in _ _ _ c.requires.table.1.0 c.requires.turn

pub returns-then-found-eq0-clause-took : goal.returns-then-found-eq0-clause-took
returns-then-found-eq0-clause-took g c =
    let found = c.compare_exchange-found in
    let t = (subst (λ m. TriesShown g.V.Version.stands (step 0 c.args.turn 0 0 none) m found.result found.new.seat.me) c.loop.invariant.2 found.ensures.2).0 c.if-found-eq0.true in
    (t.1, (t.0, t.2, t.3, t.4, t.5))
