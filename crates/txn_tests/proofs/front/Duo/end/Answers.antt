use Rattle.std.proofs.Common.{◌≡◌, [], ◌∷◌, ◌++◌, length, ap, ◌∙◌, sym, subst, arith}
use Rattle.db_front.specs.Passes.{AreAll, AreIdle}
use Rattle.db_front.proofs.AllPasses.{all_pair}
use Rattle.txn_tests.proofs.front.Duo.end.Goals as goal

pub close-requires : goal.close-requires
close-requires g c =
    let d = c.self.inside in
    let i = c.self.invariant in
    let both : c.give-2.new.self.passes ≡ d.one ∷ d.two ∷ [] =
    ap (λ p. p.passes) c.give-2.ensures ∙ ap (λ ps. ps ++ d.two ∷ []) (ap (λ p. p.passes) c.give.ensures ∙ ap (λ ps. ps ++ d.one ∷ []) i.1) in
    record {
      there = let l = ap length both in omega (arith, l);
      all = subst (AreAll d.shared.callers) (sym both) (all_pair _ d.one d.two i.0 i.5 i.8);
      idle = subst (AreIdle d.shared.table) (sym both) (i.3, i.4, (i.6, i.7, tt));
    }
