use Rattle.std.proofs.Common.{◌≡◌, ◌∙◌, ◌++◌, ◌∷◌, [], ap, sym, subst}
use Rattle.mem_txn.specs.Database.{AreAll, Callers}
use Rattle.txn_tests.proofs.ThreeBack.{three_back}
use Rattle.txn_tests.proofs.future_tasks.worked.closed.Goals as goal

pub close-requires-clause-all : goal.close-requires-clause-all
close-requires-clause-all g c =
    let back : c.give-3.new.self.passes ≡ c.args.one ∷ c.args.two ∷ c.args.three ∷ [] =
    ap (λ (p : Callers). p.passes) c.give-3.ensures
    ∙ ap (λ ps. ps ++ c.args.three ∷ []) (ap (λ (p : Callers). p.passes) c.give-2.ensures
    ∙ ap (λ ps. ps ++ c.args.two ∷ []) (ap (λ (p : Callers). p.passes) c.give.ensures
    ∙ ap (λ (p : Callers). p.passes ++ c.args.one ∷ []) c.requires.rest)) in
    subst (AreAll c.args.db.callers) (sym back)
    (three_back c.args.db.callers c.args.one c.args.two c.args.three c.requires.all
    c.requires.one.1 c.requires.two.1 c.requires.three.1)
