use Rattle.std.proofs.Common.{rules, ap, ◌∙◌, arith}
use Rattle.db_front.proofs.CommitLists.{prefix_by}
use Rattle.db_front.proofs.shared.Shared.try_begin.Goals as goal

pub returns-clause-pass : goal.returns-clause-pass
returns-clause-pass g c =
    let t = c.try_turn-found.ensures.won (omega arith) in record {
      seen = search rules;
      counts = prefix_by _ _ _ _ (ap (λ m. m.0.counts) t.3 ∙ ap (λ p. p.counts) c.pass.view_is) (ap (λ m. m.0.counts) c.see_begun-number.ensures.view.1);
      others = search rules;
    }
