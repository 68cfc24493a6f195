-- The compact text of a document: no blanks, members in their order, and the short escapes of JSON.
use Rattle.std.specs.Prelude.{ℕ, List, [], ◌∷◌, ◌++◌, Bool, true, false, if◌then◌else◌, codes}
use Rattle.std.specs.Fmt.{signed_decimal}
use Rattle.json.specs.Print.{quoted}
use Rattle.mdb_datum.specs.Doc.{Doc, nil, flag, whole, text, list, object, DocList, no_docs, doc, FieldList, no_fields, field, Field, field_list}

-- a comma, where something stands before
abbrev pub comma : Bool → List ℕ
comma later = if later then codes "," else []

abbrev mutual
  pub compact : Doc → List ℕ
  compact nil = codes "null"
  compact (flag b) = if b then codes "true" else codes "false"
  compact (whole z) = signed_decimal z
  compact (text s) = quoted s
  compact (list ds) = 91 ∷ docs_text false ds
  compact (object fs) = 123 ∷ fields_text false fs

  -- with the closing bracket
  pub docs_text : Bool → DocList → List ℕ
  docs_text later no_docs = 93 ∷ []
  docs_text later (doc d ds) = comma later ++ (compact d ++ docs_text true ds)

  pub fields_text : Bool → FieldList → List ℕ
  fields_text later no_fields = 125 ∷ []
  fields_text later (field name d fs) = comma later ++ (quoted name ++ 58 ∷ (compact d ++ fields_text true fs))

-- the text of a row, which is the object with these members
abbrev pub row_text : List Field → List ℕ
row_text fs = compact (object (field_list fs))
