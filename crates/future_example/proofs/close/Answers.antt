use Rattle.std.proofs.Common.{◌∙◌, ◌++◌, ◌∷◌, [], ap, sym, subst}
use Rattle.mem_txn.specs.Database.{AreAll, Callers}
use Rattle.mem_txn.proofs.AllBack.{two_back}
use Rattle.future_example.proofs.close.Goals as goal

pub close-requires-clause-all : goal.close-requires-clause-all
close-requires-clause-all g c =
    let one = ap (λ (p : Callers). p.passes) c.give.ensures ∙ ap (λ (p : Callers). p.passes ++ c.args.one ∷ []) c.requires.rest in
    let both = ap (λ (p : Callers). p.passes) c.give-2.ensures ∙ ap (λ ps. ps ++ c.args.two ∷ []) one in
    subst (AreAll c.args.db.callers) (sym both) (two_back c.args.db.callers c.args.one c.args.two c.requires.both c.requires.one.1 c.requires.two.1)
