-- How the logic stores a document: as a tree of numbers that gives it back.
use Rattle.std.specs.Prelude.{◌≡◌, ℕ, zero, suc, pos, negsuc, true, false, List, [], ◌∷◌, refl}
use Rattle.std.specs.Coded.{Coded, coded×, coded_ℕ, coded_list}
use base.Stored.{Gv, gnil, gnum, gcons, num}
use mathlib.Core.Path.{sym, ◌∙◌, ap}
use Rattle.mdb_datum.specs.Doc.{Doc, nil, flag, whole, text, list, object, DocList, no_docs, doc, FieldList, no_fields, field, Field}

abbrev bytes : List ℕ → Gv
bytes [] = gnil
bytes (b ∷ bs) = gcons (gnum b) (bytes bs)

abbrev mutual
  pub stored : Doc → Gv
  stored nil = gnum 0
  stored (flag false) = gnum 1
  stored (flag true) = gnum 2
  stored (whole (pos n)) = gcons (gnum 0) (gnum n)
  stored (whole (negsuc n)) = gcons (gnum 1) (gnum n)
  stored (text s) = gcons (gnum 2) (bytes s)
  stored (list ds) = gcons (gnum 3) (stored_docs ds)
  stored (object fs) = gcons (gnum 4) (stored_fields fs)

  stored_docs : DocList → Gv
  stored_docs no_docs = gnil
  stored_docs (doc d ds) = gcons (stored d) (stored_docs ds)

  stored_fields : FieldList → Gv
  stored_fields no_fields = gnil
  stored_fields (field name d fs) = gcons (bytes name) (gcons (stored d) (stored_fields fs))

abbrev bytes_from : Gv → List ℕ
bytes_from gnil = []
bytes_from (gnum n) = []
bytes_from (gcons a b) = num a ∷ bytes_from b

abbrev scalar : ℕ → Doc
scalar zero = nil
scalar (suc zero) = flag false
scalar (suc (suc n)) = flag true

abbrev by_tag : ℕ → ℕ → List ℕ → DocList → FieldList → Doc
by_tag zero n s ds fs = whole (pos n)
by_tag (suc zero) n s ds fs = whole (negsuc n)
by_tag (suc (suc zero)) n s ds fs = text s
by_tag (suc (suc (suc zero))) n s ds fs = list ds
by_tag (suc (suc (suc (suc k)))) n s ds fs = object fs

abbrev mutual
  doc_from : Gv → Doc
  doc_from gnil = nil
  doc_from (gnum n) = scalar n
  doc_from (gcons a b) = by_tag (num a) (num b) (bytes_from b) (docs_from b) (fields_from b)

  docs_from : Gv → DocList
  docs_from gnil = no_docs
  docs_from (gnum n) = no_docs
  docs_from (gcons a b) = doc (doc_from a) (docs_from b)

  fields_from : Gv → FieldList
  fields_from gnil = no_fields
  fields_from (gnum n) = no_fields
  fields_from (gcons a gnil) = no_fields
  fields_from (gcons a (gnum n)) = no_fields
  fields_from (gcons a (gcons b c)) = field (bytes_from a) (doc_from b) (fields_from c)

bytes_back : (s : List ℕ) → bytes_from (bytes s) ≡ s
bytes_back [] = refl
bytes_back (b ∷ bs) = ap (λ s. b ∷ s) (bytes_back bs)

mutual
  doc_back : (d : Doc) → doc_from (stored d) ≡ d
  doc_back nil = refl
  doc_back (flag false) = refl
  doc_back (flag true) = refl
  doc_back (whole (pos n)) = refl
  doc_back (whole (negsuc n)) = refl
  doc_back (text s) = ap text (bytes_back s)
  doc_back (list ds) = ap list (docs_back ds)
  doc_back (object fs) = ap object (fields_back fs)

  docs_back : (ds : DocList) → docs_from (stored_docs ds) ≡ ds
  docs_back no_docs = refl
  docs_back (doc d ds) = λ i. doc (doc_back d i) (docs_back ds i)

  fields_back : (fs : FieldList) → fields_from (stored_fields fs) ≡ fs
  fields_back no_fields = refl
  fields_back (field name d fs) = λ i. field (bytes_back name i) (doc_back d i) (fields_back fs i)

pub stored_inj : (x y : Doc) → stored x ≡ stored y → x ≡ y
stored_inj x y same = sym (doc_back x) ∙ ap doc_from same ∙ doc_back y

abbrev pub doc_code : Coded Doc
doc_code = record { code = stored; inj = stored_inj }

abbrev pub docs_code : Coded (List Doc)
docs_code = coded_list doc_code

abbrev pub fields_code : Coded (List Field)
fields_code = coded_list (coded× (coded_list coded_ℕ) doc_code)
