-- The text of a document's tokens.
use Rattle.std.proofs.Common.{◌≡◌, ℕ, List, [], ◌∷◌, ◌++◌, Bool, true, false, refl, sym, ap, ◌∙◌, append_assoc, append-nil}
use Rattle.json.specs.Token.{Token}
use Rattle.json.specs.Print.{print, print_from, quoted}
use Rattle.mdb_datum.specs.Doc.{Doc, nil, flag, whole, text, list, object, DocList, no_docs, doc, FieldList, no_fields, field}
use Rattle.mdb_datum.specs.inner.Tokens.{doc_tokens, docs_tokens, fields_tokens}
use Rattle.mdb_datum.specs.Written.{comma, compact, docs_text, fields_text}

regroup : (q a b c : List ℕ) → (q ++ 58 ∷ []) ++ (a ++ (b ++ c)) ≡ (q ++ 58 ∷ (a ++ b)) ++ c
regroup q a b c = append_assoc q _ _ ∙ sym (append_assoc q _ c ∙ ap (λ s. q ++ 58 ∷ s) (append_assoc a b c))

regroup_item : (q a b c : List ℕ) → q ++ (a ++ (b ++ c)) ≡ (q ++ (a ++ b)) ++ c
regroup_item q a b c = simp append_assoc

print_field : (name : List ℕ) (d : Doc) (fs : FieldList) (ts : List Token)
    → print_from false (doc_tokens d ++ (fields_tokens fs ++ ts)) ≡ compact d ++ print_from true (fields_tokens fs ++ ts)
    → print_from true (fields_tokens fs ++ ts) ≡ fields_text true fs ++ print_from true ts
    → (quoted name ++ 58 ∷ []) ++ print_from false ((doc_tokens d ++ fields_tokens fs) ++ ts) ≡ (quoted name ++ 58 ∷ (compact d ++ fields_text true fs)) ++ print_from true ts
print_field name d fs ts value rest =
    let whole = ap (print_from false) (append_assoc (doc_tokens d) (fields_tokens fs) ts) ∙ value in
    ap (λ s. (quoted name ++ 58 ∷ []) ++ s) (whole ∙ ap (λ s. compact d ++ s) rest) ∙ regroup (quoted name) (compact d) (fields_text true fs) (print_from true ts)

mutual
  unfolding print_from

  print_doc : (later : Bool) (d : Doc) (ts : List Token) → print_from later (doc_tokens d ++ ts) ≡ comma later ++ (compact d ++ print_from true ts)
  print_doc true nil ts = refl
  print_doc false nil ts = refl
  print_doc true (flag true) ts = refl
  print_doc false (flag true) ts = refl
  print_doc true (flag false) ts = refl
  print_doc false (flag false) ts = refl
  print_doc true (whole z) ts = refl
  print_doc false (whole z) ts = refl
  print_doc true (text s) ts = refl
  print_doc false (text s) ts = refl
  print_doc true (list ds) ts = ap (λ s. 44 ∷ 91 ∷ s) (print_docs false ds ts)
  print_doc false (list ds) ts = ap (λ s. 91 ∷ s) (print_docs false ds ts)
  print_doc true (object fs) ts = ap (λ s. 44 ∷ 123 ∷ s) (print_fields false fs ts)
  print_doc false (object fs) ts = ap (λ s. 123 ∷ s) (print_fields false fs ts)

  print_docs : (later : Bool) (ds : DocList) (ts : List Token) → print_from later (docs_tokens ds ++ ts) ≡ docs_text later ds ++ print_from true ts
  print_docs true no_docs ts = refl
  print_docs false no_docs ts = refl
  print_docs later (doc d ds) ts =
      let rest = docs_tokens ds in
      ap (print_from later) (append_assoc (doc_tokens d) rest ts) ∙ print_doc later d (rest ++ ts) ∙ ap (λ s. comma later ++ (compact d ++ s)) (print_docs true ds ts)
      ∙ regroup_item (comma later) (compact d) (docs_text true ds) (print_from true ts)

  print_fields : (later : Bool) (fs : FieldList) (ts : List Token) → print_from later (fields_tokens fs ++ ts) ≡ fields_text later fs ++ print_from true ts
  print_fields true no_fields ts = refl
  print_fields false no_fields ts = refl
  print_fields true (field name d fs) ts = ap (λ s. 44 ∷ s) (print_field name d fs ts (print_doc false d (fields_tokens fs ++ ts)) (print_fields true fs ts))
  print_fields false (field name d fs) ts = print_field name d fs ts (print_doc false d (fields_tokens fs ++ ts)) (print_fields true fs ts)

pub print_doc_tokens : (d : Doc) → print (doc_tokens d) ≡ compact d
unfolding print_from
print_doc_tokens d = ap print (sym (append-nil (doc_tokens d))) ∙ print_doc false d [] ∙ append-nil (compact d)
