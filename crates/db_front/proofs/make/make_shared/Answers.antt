use Rattle.std.proofs.Common.{rules, ℕ, List, ap, ◌∙◌, sym, subst, length}
use Rattle.db_front.specs.Passes.{Known, AreAll}
use Rattle.db_front.proofs.AllPasses.{fresh_all}
use Rattle.db_front.proofs.FreshPasses.{fresh_length, made_idle}
use Rattle.db_front.proofs.make.make_shared.Goals as goal

pub returns-clause-callers : goal.returns-clause-callers
returns-clause-callers g c = (search rules, ap (λ p. length p.passes) c.in_ok-passes.ensures ∙ fresh_length _ _ _ _)

pub returns-clause-all : goal.returns-clause-all
returns-clause-all g c =
    let made = ap (λ p. p.passes) c.in_ok-passes.ensures in
    subst (λ (z : ℕ × List (Known g.row.V.Denot)). AreAll z.0 z.1) (λ i. (sym (ap (λ k. k.1) c.in_ok-table.ensures.key) i, sym made i)) (fresh_all _ _ _ _)

pub returns-clause-idle : goal.returns-clause-idle
returns-clause-idle g c = made_idle _ c.in_ok-table.table.shared.key.0 c.args.log c.args.callers _ (ap (λ p. p.passes) c.in_ok-passes.ensures)
