-- The document of each variant, and the lists of the plain data there and back.
use Rattle.std.proofs.Common.{◌≡◌, refl, sym, ap, ◌∙◌, Bool, List, [], ◌∷◌, Decides}
use Rattle.std.proofs.lemmas.Bool.Decides.{Decides-like}
use Rattle.mdb_datum.specs.Doc.{Doc, list, object, Field, doc_list, docs_in, field_list, fields_in}
use Rattle.mdb_datum.specs.Datum.{doc_of}
use Rattle.mdb_datum.specs.Row.{Fields}
use Rattle.mdb_datum.specs.declared.datum.Datum.{Datum}
use Rattle.mdb_datum.specs.declared.datum.Datum.TheVariants as datum

pub fields_there_and_back : (fs : List Field) → fields_in (field_list fs) ≡ fs
fields_there_and_back [] = refl
fields_there_and_back (f ∷ fs) = ap (λ r. f ∷ r) (fields_there_and_back fs)

pub docs_there_and_back : (ds : List Doc) → docs_in (doc_list ds) ≡ ds
docs_there_and_back [] = refl
docs_there_and_back (d ∷ ds) = ap (λ r. d ∷ r) (docs_there_and_back ds)

pub doc_of_items : (ds : List Doc) → doc_of (datum.Items ds) ≡ list (doc_list ds)
doc_of_items ds = refl

pub doc_of_members : (fs : Fields) → doc_of (datum.Members fs) ≡ object (field_list fs)
doc_of_members fs = refl

-- ---- two lists or two objects are the same document where they have the same items or members

items_from_same : (ds es : List Doc) → list (doc_list ds) ≡ list (doc_list es) → ds ≡ es
items_from_same ds es same =
    let lists : doc_list ds ≡ doc_list es = cc in
    sym (docs_there_and_back ds) ∙ ap docs_in lists ∙ docs_there_and_back es

members_from_same : (fs gs : List Field) → object (field_list fs) ≡ object (field_list gs) → fs ≡ gs
members_from_same fs gs same =
    let lists : field_list fs ≡ field_list gs = cc in
    sym (fields_there_and_back fs) ∙ ap fields_in lists ∙ fields_there_and_back gs

pub Decides-same_items : (a b : List Doc) (d e : Datum) (r : Bool) → d ≡ datum.Items a → e ≡ datum.Items b → Decides r (a ≡ b) → Decides r (doc_of d ≡ doc_of e)
Decides-same_items a b d e r left right same =
    let one = ap doc_of left ∙ doc_of_items a in
    let other = ap doc_of right ∙ doc_of_items b in
    Decides-like r
    (λ h. one ∙ ap (λ ds. list (doc_list ds)) h ∙ sym other)
    (λ h. items_from_same a b (sym one ∙ h ∙ other))
    same

pub Decides-same_members : (a b : Fields) (d e : Datum) (r : Bool) → d ≡ datum.Members a → e ≡ datum.Members b → Decides r (a ≡ b) → Decides r (doc_of d ≡ doc_of e)
Decides-same_members a b d e r left right same =
    let one = ap doc_of left ∙ doc_of_members a in
    let other = ap doc_of right ∙ doc_of_members b in
    Decides-like r
    (λ h. one ∙ ap (λ fs. object (field_list fs)) h ∙ sym other)
    (λ h. members_from_same a b (sym one ∙ h ∙ other))
    same
