use Rattle.std.proofs.Common.{rules, refl}
use Rattle.mdb_datum.specs.Datum.{doc_of, field_of}
use Rattle.mdb_datum.proofs.SamePlaces.{same_seen, same_there}
use Rattle.mdb_datum.proofs.Variants.{Decides-same_items, Decides-same_members}
use Rattle.mdb_datum.proofs.same.+same.Goals as goal

pub has_same_items-returns-then-not-is_same : goal.has_same_items-returns-then-not-is_same
has_same_items-returns-then-not-is_same t c = (
  λ no. cc,
  λ same.
      let equal = c.is_same.ensures.1 (same_there doc_of _ _ _ _ c.one.view_is c.other.view_is same c.loop-at.at c.item-item.result c.index.result.now (search rules) (search rules) (search rules)) in cc,
)

pub has_same_items-returns : goal.has_same_items-returns
has_same_items-returns t c = (λ yes. same_seen doc_of _ _ _ _ c.one.view_is c.other.view_is (search rules) (λ k none less. search rules), λ same. refl)

pub has_same_members-returns-then-not-is_same_member : goal.has_same_members-returns-then-not-is_same_member
has_same_members-returns-then-not-is_same_member t c = (
  λ no. cc,
  λ same.
      let equal = c.is_same_member.ensures.1 (same_there field_of _ _ _ _ c.one.view_is c.other.view_is same c.loop-at.at c.pair-item.result c.index.result.now (search rules) (search rules) (search rules)) in cc,
)

pub has_same_members-returns : goal.has_same_members-returns
has_same_members-returns t c = (λ yes. same_seen field_of _ _ _ _ c.one.view_is c.other.view_is (search rules) (λ k none less. search rules), λ same. refl)

pub is_same-returns-in-Items-Items : goal.is_same-returns-in-Items-Items
is_same-returns-in-Items-Items t c =
    Decides-same_items _ _ c.args.one.now c.args.other.now c.has_same_items.result c.in-Items-Items.is-0 c.in-Items-Items.is-1 c.has_same_items.ensures

pub is_same-returns-in-Members-Members : goal.is_same-returns-in-Members-Members
is_same-returns-in-Members-Members t c =
    Decides-same_members _ _ c.args.one.now c.args.other.now c.has_same_members.result c.in-Members-Members.is-0 c.in-Members-Members.is-1 c.has_same_members.ensures
