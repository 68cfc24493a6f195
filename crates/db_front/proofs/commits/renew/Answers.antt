use Rattle.std.proofs.Common.{rules, ℕ, List, ◌+◌, ◌<◌, ap, ◌∙◌, sym, subst, refl, arith}
use mathlib.Core.Option.{none}
use Rattle.atomic_table.specs.Table.{step}
use Rattle.db_front.proofs.Stacks.{at_enter}
use Rattle.db_front.proofs.WholeSeats.{lays_new_at, laid_is, turn_in}
use Rattle.db_front.proofs.commits.renew.Goals as goal

pub store-requires : goal.store-requires
store-requires g c =
    let t = c.enter.ensures.took in
    let pos : 0 < c.args.place.now.me.0.stage = omega (arith, c.requires.free.1) in
    let q = at_enter g.V.Version.stands g.V.Version.fired c.args.place.now c.enter.new.place c.exchange-gone.new.seat.me c.args.turn c.enter.result _ _ pos t c.exchange-gone.ensures.3 in
    let whole = t.2 pos in (
      search rules,
      turn_in _ _ _ c.requires.table.1.0 c.requires.turn.0,
      lays_new_at g.V.Version.stands g.V.Version.fired _ _ _ _ _ _ _ _ _ _ q refl c.requires.free.1 c.requires.turn.1
          (subst (λ (z : List (ℕ × g.row.V.Denot) × g.row.V.Denot). g.V.Version.stands z.0 z.1) (λ i. (whole i, sym (ap (λ p. p.0) c.value.view_is) i)) t.3) c.requires.log,
    )

pub wake-requires : goal.wake-requires
wake-requires g c = turn_in _ _ _ c.requires.table.1.0 c.requires.turn.0

pub returns-clause-renewed : goal.returns-clause-renewed
returns-clause-renewed g c =
    let t = c.enter.ensures.took in
    let pos : 0 < c.args.place.now.me.0.stage = omega (arith, c.requires.free.1) in
    let q = at_enter g.V.Version.stands g.V.Version.fired c.args.place.now c.enter.new.place c.exchange-gone.new.seat.me c.args.turn c.enter.result _ _ pos t c.exchange-gone.ensures.3 in
    let put = laid_is g.V.Version.stands g.V.Version.fired (step 0 0 0 0 none) c.exchange-gone.new.seat.me c.store.new.seat.me _ _ _ _ _ 0 q c.store.ensures.2 in
    put ∙ (λ i. (record c.args.place.now.me.0 { stage = ap (λ m. m.0.stage) q i + 1 }, c.requires.free.0.2 i))
