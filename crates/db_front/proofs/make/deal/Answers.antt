use Rattle.std.proofs.Common.{◌≡◌, ◌-◌, ap, ◌∙◌, arith, length}
use Rattle.db_front.proofs.FreshPasses.{fresh_length}
use Rattle.db_front.proofs.make.deal.Goals as goal

pub give-requires : goal.give-requires
give-requires g c =
    let e = c.loop-number.invariant.2 in
    let l : length c.loop-number.passes.passes ≡ c.loop-number.number - 1 = ap (λ p. length p.passes) e ∙ fresh_length _ _ _ _ in
    let r : c.loop-number.passes.room ≡ c.args.callers = ap (λ p. p.room) e in
    omega (arith, l, r)
