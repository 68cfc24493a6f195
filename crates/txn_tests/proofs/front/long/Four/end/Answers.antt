use Rattle.std.proofs.Common.{◌≡◌, [], ◌∷◌, ◌++◌, length, ap, ◌∙◌, sym, subst, arith}
use Rattle.db_front.specs.Passes.{AreAll, AreIdle}
use Rattle.db_front.proofs.AllPasses.{all_four}
use Rattle.txn_tests.proofs.front.long.Four.end.Goals as goal

pub close-requires : goal.close-requires
close-requires g c =
    let f = c.self.inside in
    let i = c.self.invariant in
    let all : c.give-4.new.self.passes ≡ f.one ∷ f.two ∷ f.three ∷ f.four ∷ [] =
    ap (λ p. p.passes) c.give-4.ensures
    ∙ ap (λ ps. ps ++ f.four ∷ []) (ap (λ p. p.passes) c.give-3.ensures
    ∙ ap (λ ps. ps ++ f.three ∷ []) (ap (λ p. p.passes) c.give-2.ensures ∙ ap (λ ps. ps ++ f.two ∷ []) (ap (λ p. p.passes) c.give.ensures ∙ ap (λ ps. ps ++ f.one ∷ []) i.1))) in
    record {
      there = let l = ap length all in omega (arith, l);
      all = subst (AreAll f.shared.callers) (sym all) (all_four _ f.one f.two f.three f.four i.0 i.5 i.8 i.11 i.14);
      idle = subst (AreIdle f.shared.table) (sym all) (i.3, i.4, (i.6, i.7, (i.9, i.10, (i.12, i.13, tt))));
    }
