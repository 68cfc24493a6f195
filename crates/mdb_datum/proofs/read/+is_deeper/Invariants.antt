use Rattle.std.proofs.Common.{◌≡◌, drop, nat_lt}
use Rattle.serde_json.specs.Data.{items_depth, members_depth}
use Rattle.serde_json.specs.View.{items_view, members_view}
use Rattle.mdb_datum.proofs.read.+is_deeper.Given as goal

-- none that came so far is deeper, so those that are left decide
abbrev pub invariant-any_item_is_deeper-loop-item : goal.invariant-any_item_is_deeper-loop-item
invariant-any_item_is_deeper-loop-item l =
    nat_lt l.limit (items_depth (items_view (drop l.item-index l.item-items))) ≡ nat_lt l.limit (items_depth (items_view l.list.items))

abbrev pub invariant-any_member_is_deeper-loop-member : goal.invariant-any_member_is_deeper-loop-member
invariant-any_member_is_deeper-loop-member l = record {
  can_next : (goal.iterator-any_member_is_deeper-loop-member).can_next l.member-iterator;
  is_finite : (goal.iterator-any_member_is_deeper-loop-member).is_finite l.member-iterator;
  rest_decides : nat_lt l.limit (items_depth (items_view l.member-iterator)) ≡ nat_lt l.limit (members_depth (members_view l.map.entries));
}
