use Rattle.std.proofs.Common.{rules, ◌≡◌, ◌+◌, ◌^◌, ◌<◌, ◌≤◌, [], ◌∷◌, ◌++◌, length, ap, sym, ◌∙◌, subst, arith}
use Rattle.std.proofs.lemmas.Grind.{common_steps}
use mathlib.Core.Option.{none}
use Rattle.atomic_table.specs.Table.{step}
use Rattle.db_front.specs.Commits.{HasFirstFirings}
use Rattle.db_front.proofs.LoadSteps.{counts, notes}
use Rattle.db_front.proofs.SeatSteps.{ended}
use Rattle.db_front.proofs.WholeSeats.{own_few, own_turn}
use Rattle.db_front.proofs.close.settle.Goals as goal

pub turn_of-turn-requires : goal.turn_of-turn-requires
turn_of-turn-requires g c = own_few c.args.place _ _ _ c.requires.table c.requires.free.0.0

pub enter-card-requires-clause-turn : goal.enter-card-requires-clause-turn
enter-card-requires-clause-turn g c = own_turn c.args.place _ _ _ _ c.requires.table c.requires.free.0.0 c.turn_of-turn.ensures

pub load-count-requires : goal.load-count-requires
load-count-requires g c = (search rules, first_of (search rules, grind (arith, common_steps)), counts g.V.Version.stands g.V.Version.fired _ _ _ _)

pub load-finished-requires : goal.load-finished-requires
load-finished-requires g c = (search rules, first_of (search rules, grind (arith, common_steps)), notes g.V.Version.stands g.V.Version.fired _ _ _ _)

pub returns : goal.returns
returns g c =
    let t = c.take_turn.ensures.began in
    let e = c.enter-card.ensures.took in
    let free = c.requires.free.0.0 in
    let k = ended g.V.Version.stands g.V.Version.fired _ (step 0 0 0 0 none) (step 0 1 0 0 none) c.args.place.me c.take_turn.new.place.me c.enter-card.new.place.me c.load-count.new.seat.me c.load-finished.new.seat.me
    t.0 e.0 (c.args.place.me.0.tries ++ t.1 ++ 0 ∷ []) c.turn_of-turn.result c.enter-card.result.1 c.load-count.result c.load-finished.result
    (subst (λ n. 0 < n) (sym free.0) free.1) t.2 (ap (λ m. m.0) t.3) e.2 (ap (λ m. m.0) e.4) c.load-count.ensures.2 c.load-finished.ensures.2 c.take_apart.ensures in
    let told = c.shown.ensures.numbers in (
      e.0,
      k.0,
      k.3,
      subst (λ n. n + 1 ≡ length e.0) (sym told.0) k.1,
      told.1 ∙ k.2 ∙ sym told.0,
      subst (λ n. n ≤ 2 ^ 63) (sym told.0) k.4,
      subst (λ v. g.V.Version.stands e.0 v) (sym c.shown.ensures.value) e.3,
      subst (λ n. HasFirstFirings g.V.Version.fired n e.0 c.shown.result.log) (sym told.1)
          (subst (λ l. HasFirstFirings g.V.Version.fired c.load-finished.result e.0 l) (sym c.shown.ensures.log) k.5),
    )
