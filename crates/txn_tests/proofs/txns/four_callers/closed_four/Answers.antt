use Rattle.std.proofs.Common.{◌≡◌, ◌∙◌, ◌++◌, ◌∷◌, [], ap, sym, subst}
use Rattle.mem_txn.specs.Database.{AreAll, Caller, Callers}
use Rattle.mem_txn.proofs.AllBack.{four_back}
use Rattle.txn_tests.proofs.txns.four_callers.closed_four.Goals as goal

pub close-requires-clause-all : goal.close-requires-clause-all
close-requires-clause-all g c =
    let all : c.give-4.new.self.passes ≡ c.args.one ∷ c.args.two ∷ c.args.three ∷ c.args.four ∷ [] =
    ap (λ (p : Callers). p.passes) c.give-4.ensures
    ∙ ap (λ ps. ps ++ c.args.four ∷ []) (ap (λ (p : Callers). p.passes) c.give-3.ensures
    ∙ ap (λ ps. ps ++ c.args.three ∷ []) (ap (λ (p : Callers). p.passes) c.give-2.ensures
    ∙ ap (λ ps. ps ++ c.args.two ∷ []) (ap (λ (p : Callers). p.passes) c.give.ensures
    ∙ ap (λ (p : Callers). p.passes ++ c.args.one ∷ []) c.requires.rest))) in
    subst (AreAll c.args.db.callers) (sym all)
    (four_back c.args.db.callers c.args.one c.args.two c.args.three c.args.four c.requires.all
    c.requires.one.1 c.requires.two.1 c.requires.three.1 c.requires.four.1)
