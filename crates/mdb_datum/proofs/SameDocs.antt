-- The tests of documents and rows tell whether they are the same.
use Rattle.std.proofs.Common.{◌≡◌, refl, sym, ap, ◌∙◌, Bool, true, false, ◌&&◌, Decides}
use Rattle.std.proofs.lemmas.Bool.Decides.{Decides-int_eq}
use Rattle.std.proofs.lemmas.Slice.Eq.{bytes_eq-Decides}
use Rattle.mdb_datum.specs.Doc.{Doc, nil, flag, whole, text, list, object, DocList, no_docs, doc, FieldList, no_fields, field, field_list, fields_in}
use Rattle.mdb_datum.specs.Row.{Fields}
use Rattle.mdb_datum.specs.Same.{same_doc, same_docs, same_fields, has_same_members}
use Rattle.mdb_datum.proofs.Variants.{fields_there_and_back}

first : (a b : Bool) → (a && b) ≡ true → a ≡ true
first true b e = refl
first false b e = absurd cc

second : (a b : Bool) → (a && b) ≡ true → b ≡ true
second true b e = e
second false b e = absurd cc

both : (a b : Bool) → a ≡ true → b ≡ true → (a && b) ≡ true
both a b e f = ap (λ c. c && b) e ∙ f

mutual
  same_from_docs : (d e : Doc) → same_doc d e ≡ true → d ≡ e
  same_from_docs nil nil h = refl
  same_from_docs (flag true) (flag true) h = refl
  same_from_docs (flag false) (flag false) h = refl
  same_from_docs (whole a) (whole b) h = ap whole ((Decides-int_eq a b).0 h)
  same_from_docs (text a) (text b) h = ap text ((bytes_eq-Decides a b).0 h)
  same_from_docs (list ds) (list es) h = ap list (same_from_lists ds es h)
  same_from_docs (object fs) (object gs) h = ap object (same_from_fields fs gs h)
  same_from_docs d e h = absurd cc

  same_from_lists : (ds es : DocList) → same_docs ds es ≡ true → ds ≡ es
  same_from_lists no_docs no_docs h = refl
  same_from_lists (doc d ds) (doc e es) h =
      let head = same_from_docs d e (first (same_doc d e) (same_docs ds es) h) in
      let rest = same_from_lists ds es (second (same_doc d e) (same_docs ds es) h) in
      λ i. doc (head i) (rest i)
  same_from_lists ds es h = absurd cc

  same_from_fields : (fs gs : FieldList) → same_fields fs gs ≡ true → fs ≡ gs
  same_from_fields no_fields no_fields h = refl
  same_from_fields (field name d fs) (field other e gs) h =
      let name_same = (bytes_eq-Decides name other).0 (first _ _ h) in
      let rest = second _ _ h in
      let head = same_from_docs d e (first (same_doc d e) (same_fields fs gs) rest) in
      let tail = same_from_fields fs gs (second (same_doc d e) (same_fields fs gs) rest) in
      λ i. field (name_same i) (head i) (tail i)
  same_from_fields fs gs h = absurd cc

mutual
  docs_itself : (d : Doc) → same_doc d d ≡ true
  docs_itself nil = refl
  docs_itself (flag true) = refl
  docs_itself (flag false) = refl
  docs_itself (whole a) = (Decides-int_eq a a).1 refl
  docs_itself (text a) = (bytes_eq-Decides a a).1 refl
  docs_itself (list ds) = lists_itself ds
  docs_itself (object fs) = fields_itself fs

  lists_itself : (ds : DocList) → same_docs ds ds ≡ true
  lists_itself no_docs = refl
  lists_itself (doc d ds) = both (same_doc d d) (same_docs ds ds) (docs_itself d) (lists_itself ds)

  fields_itself : (fs : FieldList) → same_fields fs fs ≡ true
  fields_itself no_fields = refl
  fields_itself (field name d fs) = both _ _ ((bytes_eq-Decides name name).1 refl) (both (same_doc d d) (same_fields fs fs) (docs_itself d) (fields_itself fs))

pub Decides-has_same_members : (row other : Fields) → Decides (has_same_members row other) (row ≡ other)
Decides-has_same_members row other = (
  λ h. sym (fields_there_and_back row) ∙ ap fields_in (same_from_fields (field_list row) (field_list other) h) ∙ fields_there_and_back other,
  λ same. ap (has_same_members row) (sym same) ∙ fields_itself (field_list row),
)
