use Rattle.std.proofs.Common.{◌≡◌, ◌<◌, ◌++◌, map, option_map}
use Rattle.std.specs.Vec.Iter.{into_iter_items}
use Rattle.serde_json.specs.Data.{items_depth, members_depth}
use Rattle.serde_json.specs.View.{items_view, members_view}
use Rattle.mdb_datum.specs.Canonical.{AreRegular, HaveRegularMembers}
use Rattle.mdb_datum.specs.Datum.{field_of}
use Rattle.mdb_datum.specs.Doc.{doc_list, field_list}
use Rattle.mdb_datum.specs.Reading.{nesting_limit, whole_docs, whole_fields}
use Rattle.mdb_datum.proofs.Readings.{docs_before, fields_before}
use Rattle.mdb_datum.proofs.Regular.{names_of, key_bytes}
use Rattle.mdb_datum.proofs.read.+datum_from.Given as goal

-- the documents made so far, and then those of the values that are left, are those of all
abbrev pub invariant-items_from-loop-value : goal.invariant-items_from-loop-value
invariant-items_from-loop-value l = record {
  can_next : (goal.iterator-items_from-loop-value).can_next l.value-iterator;
  is_finite : (goal.iterator-items_from-loop-value).is_finite l.value-iterator;
  so_far : whole_docs (items_view l.fn.list.items) ≡ option_map (docs_before l.items) (whole_docs (items_view (into_iter_items l.value-iterator)));
  regular : AreRegular (doc_list l.items);
  shallow : items_depth (items_view (into_iter_items l.value-iterator)) < nesting_limit;
}

abbrev pub invariant-members_from-loop-name : goal.invariant-members_from-loop-name
invariant-members_from-loop-name l = record {
  can_next : (goal.iterator-members_from-loop-name).can_next l.name-iterator;
  is_finite : (goal.iterator-members_from-loop-name).is_finite l.name-iterator;
  so_far : whole_fields (members_view l.fn.map.entries) ≡ option_map (fields_before (map field_of l.pairs.items)) (whole_fields (members_view l.name-iterator));
  regular : HaveRegularMembers (field_list (map field_of l.pairs.items));
  names : names_of (map field_of l.pairs.items) ++ key_bytes l.name-iterator ≡ key_bytes l.fn.map.entries;
  shallow : members_depth (members_view l.name-iterator) < nesting_limit;
}
