use Rattle.std.proofs.Common.{rules, ◌∙◌, ℕ, List, ◌<◌, [], ◌∷◌, ◌++◌, ap, sym, subst, refl, arith}
use Rattle.std.proofs.lemmas.Grind.{common_steps}
use mathlib.Core.Option.{none}
use Rattle.atomic_table.specs.Table.{step}
use Rattle.db_front.proofs.ShownTurns.{HasAll}
use Rattle.db_front.specs.inner.Seats.{outs_of}
use Rattle.db_front.proofs.AllPasses.{if_some_so}
use Rattle.db_front.proofs.Stacks.{at_top, top_all, holds_self}
use Rattle.db_front.proofs.WholeSeats.{commits_at, committed_is, lays_back_at, back_is, turn_in, some_callers, last_turn, at_most}
use Rattle.db_front.proofs.commits.commit.Goals as goal

pub turn_of-turn-requires : goal.turn_of-turn-requires
turn_of-turn-requires g c = at_most _ _ c.requires.callers c.requires.table.1.2

pub enter-requires-clause-turn : goal.enter-requires-clause-turn
enter-requires-clause-turn g c = last_turn c.args.place.now _ _ _ _ _ c.requires.table c.requires.free.0.0 c.requires.callers c.turn_of-turn.ensures

pub fetch_add-count-requires : goal.fetch_add-count-requires
fetch_add-count-requires g c =
    let t = c.enter.ensures.took in
    let old = c.args.place.now.me.0 in
    let begun = subst (λ n. 0 < n) (sym c.requires.free.1) (omega arith) in
    let h = c.take_others.ensures.took in
    let q = at_top g.V.Version.stands g.V.Version.fired _ old c.take_others.new.place c.enter.new.place c.exchange-gone.new.seat.me c.turn_of-turn.result c.enter.result _ _ h begun t (ap (λ p. p.1) c.value.view_is) c.exchange-gone.ensures.3 in
    let some_one = some_callers c.args.place.now _ _ _ _ c.requires.table c.requires.free.0.0 c.requires.callers in
    let free = c.requires.free.0.0 in (
      search rules,
      first_of (search rules, grind (arith, common_steps)),
      commits_at g.V.Version.stands g.V.Version.fired _ _ _ _ _ _ _ _ q (subst (λ n. 0 < n) (sym free.0) free.1) c.requires.free.1
          (subst (λ n. HasAll n ((c.turn_of-turn.result, c.enter.result.1) ∷ outs_of h.0)) c.requires.callers (top_all c.args.callers c.turn_of-turn.result c.enter.result.0 c.enter.result.1 h.0 some_one c.turn_of-turn.ensures h.1)) c.requires.room,
    )

pub store-requires : goal.store-requires
store-requires g c =
    let t = c.enter.ensures.took in
    let old = c.args.place.now.me.0 in
    let begun = subst (λ n. 0 < n) (sym c.requires.free.1) (omega arith) in
    let h = c.take_others.ensures.took in
    let q = at_top g.V.Version.stands g.V.Version.fired _ old c.take_others.new.place c.enter.new.place c.exchange-gone.new.seat.me c.turn_of-turn.result c.enter.result _ _ h begun t (ap (λ p. p.1) c.value.view_is) c.exchange-gone.ensures.3 in
    let did = committed_is g.V.Version.stands g.V.Version.fired (step 0 0 0 0 none) c.exchange-gone.new.seat.me c.fetch_add-count.new.seat.me _ _ _ _ c.fetch_add-count.result q c.fetch_add-count.ensures.2 in (
      search rules,
      turn_in _ _ _ c.requires.table.1.0 (last_turn c.args.place.now _ _ _ _ _ c.requires.table c.requires.free.0.0 c.requires.callers c.turn_of-turn.ensures),
      lays_back_at g.V.Version.stands g.V.Version.fired _ _ _ _ _ _ _ _ _ did.1 refl
          (subst (λ (z : ℕ × g.row.V.Denot). g.V.Version.stands (old.seen ++ (z.0, z.1) ∷ []) z.1) (λ i. (sym c.requires.free.0.0.0 i, sym c.ready.view_is i)) c.requires.stands),
    )

pub wake-requires : goal.wake-requires
wake-requires g c = turn_in _ _ _ c.requires.table.1.0 (last_turn c.args.place.now _ _ _ _ _ c.requires.table c.requires.free.0.0 c.requires.callers c.turn_of-turn.ensures)

pub lay_others-requires-clause-table : goal.lay_others-requires-clause-table
lay_others-requires-clause-table g c =
    let t = c.enter.ensures.took in
    let old = c.args.place.now.me.0 in
    let begun = subst (λ n. 0 < n) (sym c.requires.free.1) (omega arith) in
    let h = c.take_others.ensures.took in
    let q = at_top g.V.Version.stands g.V.Version.fired _ old c.take_others.new.place c.enter.new.place c.exchange-gone.new.seat.me c.turn_of-turn.result c.enter.result _ _ h begun t (ap (λ p. p.1) c.value.view_is) c.exchange-gone.ensures.3 in
    let did = committed_is g.V.Version.stands g.V.Version.fired (step 0 0 0 0 none) c.exchange-gone.new.seat.me c.fetch_add-count.new.seat.me _ _ _ _ c.fetch_add-count.result q c.fetch_add-count.ensures.2 in
    let put = back_is g.V.Version.stands g.V.Version.fired (step 0 0 0 0 none) c.fetch_add-count.new.seat.me c.store.new.seat.me _ _ _ _ 0 did.1 c.store.ensures.2 in
    (search rules, c.requires.table.1, ap (λ m. m.0.callers) put ∙ c.requires.table.2)

pub lay_others-requires-clause-callers : goal.lay_others-requires-clause-callers
lay_others-requires-clause-callers g c = (some_callers c.args.place.now _ _ _ _ c.requires.table c.requires.free.0.0 c.requires.callers, c.requires.callers)

pub lay_others-requires-clause-held : goal.lay_others-requires-clause-held
lay_others-requires-clause-held g c =
    let t = c.enter.ensures.took in
    let old = c.args.place.now.me.0 in
    let begun = subst (λ n. 0 < n) (sym c.requires.free.1) (omega arith) in
    let h = c.take_others.ensures.took in
    let q = at_top g.V.Version.stands g.V.Version.fired _ old c.take_others.new.place c.enter.new.place c.exchange-gone.new.seat.me c.turn_of-turn.result c.enter.result _ _ h begun t (ap (λ p. p.1) c.value.view_is) c.exchange-gone.ensures.3 in
    let did = committed_is g.V.Version.stands g.V.Version.fired (step 0 0 0 0 none) c.exchange-gone.new.seat.me c.fetch_add-count.new.seat.me _ _ _ _ c.fetch_add-count.result q c.fetch_add-count.ensures.2 in
    let put = back_is g.V.Version.stands g.V.Version.fired (step 0 0 0 0 none) c.fetch_add-count.new.seat.me c.store.new.seat.me _ _ _ _ 0 did.1 c.store.ensures.2 in
    holds_self _ _ h.0 c.store.new.seat h.1 put refl

pub lay_others-requires-clause-stands : goal.lay_others-requires-clause-stands
lay_others-requires-clause-stands g c =
    let t = c.enter.ensures.took in
    let old = c.args.place.now.me.0 in
    let begun = subst (λ n. 0 < n) (sym c.requires.free.1) (omega arith) in
    let h = c.take_others.ensures.took in
    let q = at_top g.V.Version.stands g.V.Version.fired _ old c.take_others.new.place c.enter.new.place c.exchange-gone.new.seat.me c.turn_of-turn.result c.enter.result _ _ h begun t (ap (λ p. p.1) c.value.view_is) c.exchange-gone.ensures.3 in
    let did = committed_is g.V.Version.stands g.V.Version.fired (step 0 0 0 0 none) c.exchange-gone.new.seat.me c.fetch_add-count.new.seat.me _ _ _ _ c.fetch_add-count.result q c.fetch_add-count.ensures.2 in
    let put = back_is g.V.Version.stands g.V.Version.fired (step 0 0 0 0 none) c.fetch_add-count.new.seat.me c.store.new.seat.me _ _ _ _ 0 did.1 c.store.ensures.2 in
    if_some_so c.spare_of-spare.result _ _
    (λ a is. subst (λ (z : List (ℕ × g.row.V.Denot) × g.row.V.Denot). g.V.Version.stands z.0 z.1) (λ i. (sym (ap (λ m. m.0.seen) put) i, sym is i))
    (subst (λ (z : ℕ × g.row.V.Denot). g.V.Version.stands (old.seen ++ (z.0, z.1) ∷ []) z.1) (λ i. (sym c.requires.free.0.0.0 i, sym c.ready.view_is i)) c.requires.stands))
    c.spare_of-spare.ensures.some

pub returns-clause-committed : goal.returns-clause-committed
returns-clause-committed g c =
    let t = c.enter.ensures.took in
    let old = c.args.place.now.me.0 in
    let begun = subst (λ n. 0 < n) (sym c.requires.free.1) (omega arith) in
    let h = c.take_others.ensures.took in
    let q = at_top g.V.Version.stands g.V.Version.fired _ old c.take_others.new.place c.enter.new.place c.exchange-gone.new.seat.me c.turn_of-turn.result c.enter.result _ _ h begun t (ap (λ p. p.1) c.value.view_is) c.exchange-gone.ensures.3 in
    let did = committed_is g.V.Version.stands g.V.Version.fired (step 0 0 0 0 none) c.exchange-gone.new.seat.me c.fetch_add-count.new.seat.me _ _ _ _ c.fetch_add-count.result q c.fetch_add-count.ensures.2 in
    let put = back_is g.V.Version.stands g.V.Version.fired (step 0 0 0 0 none) c.fetch_add-count.new.seat.me c.store.new.seat.me _ _ _ _ 0 did.1 c.store.ensures.2 in
    let none_out = c.requires.free.0.1 in
    c.lay_others.ensures.gave ∙ (ap (λ m. (record m.0 { outs = [] }, [])) put ∙ (λ i. (record old { seen = old.seen ++ (old.number, c.ready.view_is i) ∷ []; mine = old.mine ++ (old.number, c.ready.view_is i) ∷ []; stage = 2; outs = sym none_out i }, [])))
