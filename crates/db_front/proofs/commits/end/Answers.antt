use Rattle.std.proofs.Common.{rules, ◌<◌, ◌+◌, length, ap, ◌∙◌, sym, subst, arith}
use Rattle.std.proofs.lemmas.Grind.{common_steps}
use Rattle.db_front.proofs.CommitSteps.{finishes}
use Rattle.db_front.proofs.commits.end.Goals as goal

pub store-requires : goal.store-requires
store-requires g c =
    let e = c.renew_all.ensures.renewed in
    let of = c.requires.free.0.0 in (
      search rules,
      first_of (search rules, grind (arith, common_steps)),
      finishes g.V.Version.stands g.V.Version.fired _ _ _ _ _ (subst (λ n. 0 < n) (sym (ap (λ m. m.0.number) e ∙ of.0)) of.1)
          (ap (λ m. m.0.stage) e ∙ ap (λ n. n + 2) c.requires.callers) (c.requires.count ∙ sym (ap (λ m. length m.0.seen) e)),
    )
