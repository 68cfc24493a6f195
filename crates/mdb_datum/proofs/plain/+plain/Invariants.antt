use Rattle.std.proofs.Common.{◌+◌, ◌-◌, ◌*◌, ◌≤◌, length, map}
use Rattle.mdb_datum.specs.Canonical.{AreRegular, HaveRegularMembers, NamesRise, docs_nesting, members_nesting}
use Rattle.mdb_datum.specs.Datum.{field_of}
use Rattle.mdb_datum.specs.Doc.{doc_list, field_list}
use Rattle.mdb_datum.proofs.NextDoc.{DocsRead, FieldsRead}
use Rattle.mdb_datum.proofs.plain.+plain.Given as goal

abbrev pub decreases-plain_value : goal.decreases-plain_value
decreases-plain_value l = 2 * l.depth

abbrev pub decreases-plain_items : goal.decreases-plain_items
decreases-plain_items l = 2 * l.depth + 1

abbrev pub decreases-plain_members : goal.decreases-plain_members
decreases-plain_members l = 2 * l.depth + 1

-- the documents of the items that came so far are those that were made
abbrev pub invariant-plain_items-items : goal.invariant-plain_items-items
invariant-plain_items-items l = record {
  so_far : DocsRead l.depth l.initial.reader l.reader l.items;
  regular : AreRegular (doc_list l.items);
  shallow : docs_nesting l.items ≤ l.depth - 27;
  not_longer : length l.reader ≤ length l.initial.reader;
}

abbrev pub decreases-plain_items-items : goal.decreases-plain_items-items
decreases-plain_items-items l = length l.reader

-- the members that came so far, each at its place, are those that were made
abbrev pub invariant-plain_members-members : goal.invariant-plain_members-members
invariant-plain_members-members l = record {
  so_far : FieldsRead l.depth l.initial.reader l.reader (map field_of l.pairs.items);
  rise : NamesRise (field_list (map field_of l.pairs.items));
  regular : HaveRegularMembers (field_list (map field_of l.pairs.items));
  shallow : members_nesting (field_list (map field_of l.pairs.items)) ≤ l.depth - 27;
  not_longer : length l.reader ≤ length l.initial.reader;
}

abbrev pub decreases-plain_members-members : goal.decreases-plain_members-members
decreases-plain_members-members l = length l.reader
