use Rattle.std.proofs.Common.{◌≤◌, subst}
use Rattle.memdb.proofs.words.numbers.Numbers.are_in_range.Goals as goal

pub returns : goal.returns
returns c = record {
  number = subst (λ x. x ≤ 65536) c.number.ensures.number c.number.ensures.small;
  some_clients = subst (λ x. 1 ≤ x) c.clients.ensures.clients c.clients.ensures.some;
  few_clients = subst (λ x. x ≤ 64) c.clients.ensures.clients c.clients.ensures.few;
  some_rounds = subst (λ x. 1 ≤ x) c.count.ensures.count c.count.ensures.some;
  few_rounds = subst (λ x. x ≤ 1000) c.count.ensures.count c.count.ensures.few;
}
