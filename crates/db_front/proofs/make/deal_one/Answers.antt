use Rattle.std.proofs.Common.{rules, ◌<◌, ap, ◌∙◌, sym, subst, arith}
use Rattle.std.proofs.lemmas.Grind.{common_steps}
use Rattle.db_front.proofs.FreshPasses.{dealt_fewer}
use Rattle.db_front.proofs.Hands.{dealt_next}
use Rattle.db_front.proofs.SeatSteps.{splits}
use Rattle.db_front.proofs.make.deal_one.Goals as goal

pub split_seat-other-requires : goal.split_seat-other-requires
split_seat-other-requires g c = (
  search rules,
  first_of (search rules, grind (arith, common_steps)),
  splits g.V.Version.stands g.V.Version.fired _ _ _ _ _ (ap (λ m. m.0.more) c.requires.dealing ∙ dealt_next _ _ c.args.number c.requires.next.1)
      (subst (λ m. 0 < m.0.number) (sym c.requires.dealing) (omega (arith, c.requires.next.1))),
)

pub returns-clause-dealing : goal.returns-clause-dealing
returns-clause-dealing g c = dealt_fewer c.args.board.now.key c.args.number c.args.place.now.me _ c.requires.next.1 c.requires.dealing c.split_seat-other.ensures.2
