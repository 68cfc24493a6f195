use Rattle.std.proofs.Common.{rules, length, ap, ◌∙◌, arith}
use Rattle.db_front.proofs.CommitLists.{prefix_by}
use Rattle.db_front.proofs.shared.Shared.begin.Goals as goal

pub returns-clause-pass : goal.returns-clause-pass
returns-clause-pass g c =
    let v = c.see_begun-number.ensures.view in
    let seen = ap (λ m. length m.0.seen) v.1 in record {
      turned = record {
        seen = search rules;
        counts = prefix_by _ _ _ _ (ap (λ m. m.0.counts) c.take_turn.ensures.began.3 ∙ ap (λ p. p.counts) c.pass.view_is) (ap (λ m. m.0.counts) v.1);
        others = search rules;
      };
      won = search rules;
      room = omega (arith, v.0, v.2, seen);
    }
