use Rattle.std.proofs.Common.{rules, ap, arith}
use Rattle.db_front.proofs.CommitLists.{prefix_by}
use Rattle.db_front.proofs.shared.Shared.look.Goals as goal

pub returns-clause-pass : goal.returns-clause-pass
returns-clause-pass g c = let s = c.see-number.ensures.sees in record {
  seen = search rules;
  whole = search rules;
  counts = prefix_by _ _ _ _ (ap (λ p. p.counts) c.pass.view_is) (ap (λ v. v.counts) s.others);
  room = let n = s.count in let r = s.room in omega (arith, n, r);
  others = search rules;
}
