use Rattle.std.proofs.Common.{◌≡◌, [], ◌∷◌, ◌++◌, map, Some, option_map, string_bytes, sym, ap, ◌∙◌, subst, rules}
use Rattle.std.specs.Vec.Iter.{into_iter_items}
use Rattle.std.proofs.lemmas.List.{nil_from_length}
use Rattle.serde_json.specs.View.{view, items_view, members_view}
use Rattle.mdb_datum.specs.Canonical.{AreRegular, HaveRegularMembers}
use Rattle.mdb_datum.specs.Doc.{doc_list, field_list}
use Rattle.mdb_datum.specs.Datum.{doc_of, field_of}
use Rattle.mdb_datum.specs.Reading.{nesting_limit, whole_docs, whole_fields}
use Rattle.mdb_datum.proofs.Readings.{items_shallow, members_shallow, docs_before, whole_docs-more, docs_before-no_docs, fields_before, whole_fields-more}
use Rattle.std.specs.Str.{IsUtf8}
use Rattle.mdb_datum.proofs.MembersRead.{all_whole, all_canonical}
use Rattle.mdb_datum.proofs.Regular.{AreRegular-one_more, HaveRegularMembers-one_more, names_of, key_bytes, names_of-one_more}
use Rattle.std.proofs.lemmas.Str.{IsUtf8-had}
use Rattle.mdb_datum.proofs.read.+datum_from.Goals as goal

pub items_from-loop-value-preserved : goal.items_from-loop-value-preserved
items_from-loop-value-preserved t c =
    let l = c.loop-value in
    let ds = l.items in
    let d = doc_of c.in_ok-item.item in
    let rest = into_iter_items c.next.new.self in
    let step : into_iter_items l.value-iterator ≡ c.in-Some.value ∷ rest = search rules in
    let pushed : c.push_item.new.items ≡ ds ++ d ∷ [] = search rules in
    record {
      can_next = tt;
      is_finite = tt;
      so_far = l.invariant.so_far ∙ ap (λ vs. option_map (docs_before ds) (whole_docs (items_view vs))) step
          ∙ whole_docs-more ds d (view c.in-Some.value) (items_view rest) c.in_ok-item.ensures.ok
          ∙ ap (λ xs. option_map (docs_before xs) (whole_docs (items_view rest))) (sym pushed);
      regular = subst (λ xs. AreRegular (doc_list xs)) (sym pushed) (AreRegular-one_more ds d l.invariant.regular c.in_ok-item.ensures.regular);
      shallow = (items_shallow nesting_limit c.in-Some.value _ rest step l.invariant.shallow).1;
    }

pub items_from-returns-clause-ok : goal.items_from-returns-clause-ok
items_from-returns-clause-ok t c =
    let l = c.loop-value in
    let none : into_iter_items l.value-iterator ≡ [] = nil_from_length (into_iter_items l.value-iterator) (sym l.value-iterator.rest.ok.0 ∙ c.in-None.ensures.steps.0) in
    l.invariant.so_far ∙ ap (λ vs. option_map (docs_before l.items) (whole_docs (items_view vs))) none ∙ ap Some (docs_before-no_docs l.items)

pub members_from-loop-name-preserved : goal.members_from-loop-name-preserved
members_from-loop-name-preserved t c =
    let l = c.loop-name in
    let fs = map field_of l.pairs.items in
    let name = string_bytes c.in-Some.name in
    let gained = c.in_ok-add_member.ensures.ok in
    let rest = c.next.new.self in
    let step : l.name-iterator ≡ (c.in-Some.name, c.in-Some.value) ∷ rest = search rules in
    record {
      can_next = tt;
      is_finite = tt;
      so_far = l.invariant.so_far ∙ ap (λ es. option_map (fields_before fs) (whole_fields (members_view es))) step
          ∙ whole_fields-more fs name gained.doc (view c.in-Some.value) (members_view rest) gained.whole
          ∙ ap (λ xs. option_map (fields_before xs) (whole_fields (members_view rest))) (sym gained.added);
      regular = subst (λ xs. HaveRegularMembers (field_list xs)) (sym gained.added) (HaveRegularMembers-one_more fs name gained.doc l.invariant.regular (IsUtf8-had name c.in-Some.name.ok) gained.regular);
      shallow = (members_shallow nesting_limit (c.in-Some.name, c.in-Some.value) _ rest step l.invariant.shallow).1;
      names = ap (λ xs. names_of xs ++ key_bytes rest) gained.added ∙ names_of-one_more fs name gained.doc (key_bytes rest) ∙ ap (λ es. names_of fs ++ key_bytes es) (sym step) ∙ l.invariant.names;
    }

pub members_from-returns-clause-ok : goal.members_from-returns-clause-ok
members_from-returns-clause-ok t c =
    let l = c.loop-name in
    all_whole c.args.map.entries l.name-iterator _ (search rules) l.invariant.so_far

pub members_from-returns-clause-regular : goal.members_from-returns-clause-regular
members_from-returns-clause-regular t c =
    let l = c.loop-name in
    (all_canonical c.args.map.entries l.name-iterator _ (search rules) c.into_iter-name-iterator.ensures.into_iter_gives.5 c.requires l.invariant.so_far l.invariant.regular l.invariant.names).regular

pub members_from-invariant_of-result : goal.members_from-invariant_of-result
members_from-invariant_of-result t c =
    let l = c.loop-name in
    all_canonical c.args.map.entries l.name-iterator _ (search rules) c.into_iter-name-iterator.ensures.into_iter_gives.5 c.requires l.invariant.so_far l.invariant.regular l.invariant.names

pub datum_from-returns-in-String-clause-regular : goal.datum_from-returns-in-String-clause-regular
datum_from-returns-in-String-clause-regular t c = subst IsUtf8 (sym c.from_string.ensures) (IsUtf8-had _ c.in-String.text.ok)
