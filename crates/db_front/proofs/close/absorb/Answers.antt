use Rattle.std.proofs.Common.{rules, ◌<◌, ap, ◌∙◌, sym, subst, arith}
use Rattle.std.proofs.lemmas.Grind.{common_steps}
use Rattle.db_front.proofs.SeatSteps.{joins}
use Rattle.db_front.proofs.close.absorb.Goals as goal

pub join_seat-requires : goal.join_seat-requires
join_seat-requires g c = (
  search rules,
  search rules,
  search rules,
  first_of (search rules, grind (arith, common_steps)),
  joins g.V.Version.stands g.V.Version.fired _ _ _ _ _ (subst (λ n. 0 < n) (sym c.pass.invariant.0.0.0) c.pass.invariant.0.0.1) c.pass.invariant.1 c.pass.invariant.0.1 (ap (λ p. p.stage) c.pass.view_is ∙ c.requires.pass.1),
)
