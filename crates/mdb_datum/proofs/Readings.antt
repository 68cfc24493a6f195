-- What a text reads as, from what `serde_json` says of it, and the walks over its value.
use Rattle.std.proofs.Common.{arith, subst, ◌≤◌, ◌<◌, ◌≡◌, ℕ, max, nat_lt, if◌then◌else◌, List, [], ◌∷◌, ◌++◌, map, Bool, true, false, Option, Some, None, option_map, IsUtf8, refl, ap, ◌∙◌}
use Rattle.std.specs.Str.{is_utf8}
use Rattle.std.proofs.lemmas.Str.{IsUtf8-from_is_utf8, is_utf8-from_IsUtf8}
use Rattle.serde_json.specs.Data as json
use Rattle.serde_json.specs.Read.{read}
use Rattle.serde_json.specs.View.{view, items_view, members_view}
use Rattle.serde_json.specs.declared.value.Value.{Value}
use Rattle.serde_json.proofs.Views.{Entry}
use Rattle.mdb_datum.specs.Doc.{Doc, DocList, no_docs, doc, FieldList, no_fields, field, Field, doc_list, field_list}
use Rattle.mdb_datum.specs.Reading.{no_json, too_deep, or_not_whole, value_reading, whole_doc, whole_docs, whole_fields, reading}

-- ---- the whole text

by_utf8 : (b : Bool) (r : Option json.Data) → (b ≡ true → r ≡ None) → (if b then value_reading r else no_json) ≡ no_json
by_utf8 true r h = ap value_reading (h refl)
by_utf8 false r h = refl

pub reading-no_json : (bytes : List ℕ) → (IsUtf8 bytes → read bytes ≡ None) → reading bytes ≡ no_json
unfolding reading
reading-no_json bytes h = by_utf8 (is_utf8 bytes) (read bytes) (λ e. h (IsUtf8-from_is_utf8 bytes e))

pub reading-value : (bytes : List ℕ) (d : json.Data) → IsUtf8 bytes × (read bytes ≡ Some d) → reading bytes ≡ value_reading (Some d)
unfolding reading
reading-value bytes d h = rw (is_utf8-from_IsUtf8 bytes h.0, h.1)

pub reading-too_deep : (bytes : List ℕ) (d : json.Data) → IsUtf8 bytes × (read bytes ≡ Some d) → nat_lt 100 (json.depth d) ≡ true → reading bytes ≡ too_deep
reading-too_deep bytes d h deep = reading-value bytes d h ∙ rw deep

pub reading-shallow : (bytes : List ℕ) (d : json.Data) → IsUtf8 bytes × (read bytes ≡ Some d) → nat_lt 100 (json.depth d) ≡ false → reading bytes ≡ or_not_whole (whole_doc d)
reading-shallow bytes d h shallow = reading-value bytes d h ∙ rw shallow

-- ---- how deep it nests

pub values_depth : (es : List Entry) → json.items_depth (items_view (map (λ e. e.1) es)) ≡ json.members_depth (members_view es)
values_depth [] = refl
values_depth (e ∷ es) = ap (λ n. max (json.depth (view e.1)) n) (values_depth es)

-- the first value and the rest of a list that nests less deep than a limit
pub items_shallow : (limit : ℕ) (v : Value) (vs rest : List Value) → vs ≡ v ∷ rest → json.items_depth (items_view vs) < limit → (json.depth (view v) ≤ limit) × (json.items_depth (items_view rest) < limit)
items_shallow limit v vs rest is shallow =
    let all : max (json.depth (view v)) (json.items_depth (items_view rest)) < limit = subst (λ xs. json.items_depth (items_view xs) < limit) is shallow in
    (omega (arith, all), omega (arith, all))

-- the first member and the rest of an object that does
pub members_shallow : (limit : ℕ) (e : Entry) (es rest : List Entry) → es ≡ e ∷ rest → json.members_depth (members_view es) < limit → (json.depth (view e.1) ≤ limit) × (json.members_depth (members_view rest) < limit)
members_shallow limit e es rest is shallow =
    let all : max (json.depth (view e.1)) (json.members_depth (members_view rest)) < limit = subst (λ xs. json.members_depth (members_view xs) < limit) is shallow in
    (omega (arith, all), omega (arith, all))

-- ---- documents that were made so far, before those of the rest

abbrev pub docs_before : List Doc → DocList → DocList
docs_before [] rest = rest
docs_before (d ∷ ds) rest = doc d (docs_before ds rest)

pub docs_before-no_docs : (ds : List Doc) → docs_before ds no_docs ≡ doc_list ds
docs_before-no_docs [] = refl
docs_before-no_docs (d ∷ ds) = ap (doc d) (docs_before-no_docs ds)

pub docs_before-append : (ds : List Doc) (d : Doc) (rest : DocList) → docs_before ds (doc d rest) ≡ docs_before (ds ++ d ∷ []) rest
docs_before-append [] d rest = refl
docs_before-append (x ∷ ds) d rest = ap (doc x) (docs_before-append ds d rest)

one_more : (ds : List Doc) (d : Doc) (r : Option DocList) → option_map (docs_before ds) (option_map (doc d) r) ≡ option_map (docs_before (ds ++ d ∷ [])) r
one_more ds d None = refl
one_more ds d (Some rest) = ap Some (docs_before-append ds d rest)

pub whole_docs-more : (ds : List Doc) (d : Doc) (x : json.Data) (rest : json.Items) → whole_doc x ≡ Some d
    → option_map (docs_before ds) (whole_docs (json.item x rest)) ≡ option_map (docs_before (ds ++ d ∷ [])) (whole_docs rest)
whole_docs-more ds d x rest e = rw e (one_more ds d (whole_docs rest))

abbrev pub fields_before : List Field → FieldList → FieldList
fields_before [] rest = rest
fields_before (f ∷ fs) rest = field f.0 f.1 (fields_before fs rest)

pub fields_before-no_fields : (fs : List Field) → fields_before fs no_fields ≡ field_list fs
fields_before-no_fields [] = refl
fields_before-no_fields (f ∷ fs) = ap (field f.0 f.1) (fields_before-no_fields fs)

fields_before-append : (fs : List Field) (f : Field) (rest : FieldList) → fields_before fs (field f.0 f.1 rest) ≡ fields_before (fs ++ f ∷ []) rest
fields_before-append [] f rest = refl
fields_before-append (x ∷ fs) f rest = ap (field x.0 x.1) (fields_before-append fs f rest)

one_more_field : (fs : List Field) (f : Field) (r : Option FieldList) → option_map (fields_before fs) (option_map (field f.0 f.1) r) ≡ option_map (fields_before (fs ++ f ∷ [])) r
one_more_field fs f None = refl
one_more_field fs f (Some rest) = ap Some (fields_before-append fs f rest)

pub whole_fields-more : (fs : List Field) (name : List ℕ) (d : Doc) (x : json.Data) (rest : json.Members) → whole_doc x ≡ Some d
    → option_map (fields_before fs) (whole_fields (json.member name x rest)) ≡ option_map (fields_before (fs ++ (name, d) ∷ [])) (whole_fields rest)
whole_fields-more fs name d x rest e = rw e (one_more_field fs (name, d) (whole_fields rest))
