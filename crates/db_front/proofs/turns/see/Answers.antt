use Rattle.std.proofs.Common.{rules, ◌∙◌, ap, sym, subst, arith}
use Rattle.std.proofs.lemmas.Grind.{common_steps}
use mathlib.Core.Option.{none}
use Rattle.atomic_table.specs.Table.{step, rest}
use Rattle.db_front.specs.Commits.{HasFirstFirings}
use Rattle.db_front.proofs.AllPasses.{if_so}
use Rattle.db_front.proofs.LoadSteps.{counts, notes, sees, at_loads}
use Rattle.db_front.proofs.WholeSeats.{headed, topmost, own_few, own_turn}
use Rattle.db_front.proofs.turns.see.Goals as goal

pub turn_of-turn-requires : goal.turn_of-turn-requires
turn_of-turn-requires g c = own_few c.args.place.now _ _ _ c.requires.table c.requires.free.0

pub enter-card-requires-clause-turn : goal.enter-card-requires-clause-turn
enter-card-requires-clause-turn g c = own_turn c.args.place.now _ _ _ _ c.requires.table c.requires.free.0 c.turn_of-turn.ensures

pub load-count-requires : goal.load-count-requires
load-count-requires g c = (search rules, first_of (search rules, grind (arith, common_steps)), counts g.V.Version.stands g.V.Version.fired _ _ _ _)

pub load-finished-requires : goal.load-finished-requires
load-finished-requires g c = (search rules, first_of (search rules, grind (arith, common_steps)), notes g.V.Version.stands g.V.Version.fired _ _ _ _)

pub give-requires-clause-turn : goal.give-requires-clause-turn
give-requires-clause-turn g c = own_turn c.args.place.now _ _ _ _ c.requires.table c.requires.free.0 c.turn_of-turn.ensures

pub give-requires-clause-out : goal.give-requires-clause-out
give-requires-clause-out g c =
    let t = c.enter-card.ensures.took in
    let q = at_loads g.V.Version.stands g.V.Version.fired c.args.place.now.me c.enter-card.new.place.me c.load-count.new.seat.me c.load-finished.new.seat.me t.0 _ _ _ _ (step 0 0 0 0 none) (step 0 1 0 0 none) t.4 c.load-count.ensures.2 c.load-finished.ensures.2 in
    headed _ _ _ (ap (λ m. m.0.outs) q)

pub give-requires-clause-slot : goal.give-requires-clause-slot
give-requires-clause-slot g c =
    let t = c.enter-card.ensures.took in
    let q = at_loads g.V.Version.stands g.V.Version.fired c.args.place.now.me c.enter-card.new.place.me c.load-count.new.seat.me c.load-finished.new.seat.me t.0 _ _ _ _ (step 0 0 0 0 none) (step 0 1 0 0 none) t.4 c.load-count.ensures.2 c.load-finished.ensures.2 in
    topmost _ _ _ (ap (λ m. m.1) q)

pub give-requires-clause-stands : goal.give-requires-clause-stands
give-requires-clause-stands g c =
    let t = c.enter-card.ensures.took in
    let q = at_loads g.V.Version.stands g.V.Version.fired c.args.place.now.me c.enter-card.new.place.me c.load-count.new.seat.me c.load-finished.new.seat.me t.0 _ _ _ _ (step 0 0 0 0 none) (step 0 1 0 0 none) t.4 c.load-count.ensures.2 c.load-finished.ensures.2 in
    subst (λ h. g.V.Version.stands h c.enter-card.result.0) (sym (ap (λ m. m.0.seen) q)) t.3

pub returns : goal.returns
returns g c =
    let t = c.enter-card.ensures.took in
    let q = at_loads g.V.Version.stands g.V.Version.fired c.args.place.now.me c.enter-card.new.place.me c.load-count.new.seat.me c.load-finished.new.seat.me t.0 _ _ _ _ (step 0 0 0 0 none) (step 0 1 0 0 none) t.4 c.load-count.ensures.2 c.load-finished.ensures.2 in
    let gave = c.give.ensures.gave in
    let seen = ap (λ m. m.0.seen) gave ∙ ap (λ m. m.0.seen) q in
    let stands = subst (λ h. g.V.Version.stands h c.enter-card.result.0) (sym seen) t.3 in
    let k = sees g.V.Version.stands g.V.Version.fired c.args.place.now.me c.enter-card.new.place.me c.load-count.new.seat.me c.load-finished.new.seat.me c.give.new.place.me t.0 _ _ _ _ (step 0 0 0 0 none) (step 0 1 0 0 none) t.1 t.2 (ap (λ m. m.0) t.4) c.load-count.ensures.2 c.load-finished.ensures.2 (ap (λ m. m.0) gave) in
    record {
      seat = ((search rules, search rules), ap (λ m. m.1) gave ∙ (ap (λ m. rest m.1) q ∙ c.requires.free.2));
      sees = k.0;
      stood = (c.enter-card.result.0, stands);
      value = if_so c.share-shared.result _ _ (λ a is. subst (λ d. g.V.Version.stands c.give.new.place.me.0.seen d.0) (sym is) stands) c.share-shared.ensures;
      log = if_so c.share-shared.result _ _ (λ a is. subst (λ d. HasFirstFirings g.V.Version.fired c.load-finished.result c.give.new.place.me.0.seen d.1) (sym is) k.1) c.share-shared.ensures;
    }
