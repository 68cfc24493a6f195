use Rattle.std.proofs.Common.{nat_lt, ap, ◌∙◌}
use Rattle.serde_json.specs.View.{items_view}
use Rattle.serde_json.specs.Data.{items_depth}
use Rattle.mdb_datum.proofs.Readings.{values_depth}
use Rattle.mdb_datum.proofs.read.+is_deeper.Goals as goal

pub any_member_is_deeper-loop-member-init : goal.any_member_is_deeper-loop-member-init
any_member_is_deeper-loop-member-init t c = record {
  can_next = tt;
  is_finite = tt;
  rest_decides = ap (λ vs. nat_lt c.args.limit (items_depth (items_view vs))) (c.into_iter-member-iterator.ensures.into_iter_gives ∙ c.values-member-items.ensures.rest)
      ∙ ap (nat_lt c.args.limit) (values_depth c.args.map.now.entries);
}
