use Rattle.std.proofs.Common.{◌≡◌, ◌-◌, ℕ, [], ◌∷◌, ◌++◌, ap, ◌∙◌, sym, arith, length}
use Rattle.watch_word.specs.Logs.{Log}
use Rattle.db_front.specs.inner.Seats.{known_of}
use Rattle.db_front.proofs.FreshPasses.{fresh_length, all_made}
use Rattle.db_front.proofs.make.deal_all.Goals as goal

pub give-requires : goal.give-requires
give-requires g c =
    let e = c.deal.ensures.passes in
    let l : length c.deal.new.passes.passes ≡ c.args.callers - 1 = ap (λ p. length p.passes) e ∙ fresh_length _ _ _ _ in
    let r : c.deal.new.passes.room ≡ c.args.callers = ap (λ p. p.room) e in
    omega (arith, l, r, c.requires.callers.0)

pub returns : goal.returns
returns g c =
    let key = c.args.board.now.key in
    let e = c.deal.ensures.passes in
    let made = all_made _ key.0 c.args.log.now c.args.callers key c.deal.new.place _ _ c.requires.callers.0 (ap (λ (n : ℕ). (key.0, n)) (sym c.requires.callers.1)) (c.deal.ensures.table ∙ c.requires.table.0) c.deal.ensures.dealing (ap (λ p. p.passes) e) (ap (λ p. p.passes) c.give.ensures ∙ ap (λ (l : Log). c.deal.new.passes.passes ++ known_of c.deal.new.place c.args.callers l ∷ []) c.share.ensures) in
    let room = ap (λ p. p.room) c.give.ensures ∙ ap (λ p. p.room) e in
    λ i. record { room = room i; passes = made i }
