-- A document in the words of `json`, whose tokens are written one after another.
use Rattle.std.specs.Prelude.{List}
use Rattle.std.specs.Fmt.{signed_decimal}
use Rattle.json.specs.Json as json
use Rattle.json.specs.Token.{Token}
use Rattle.json.specs.Tree.{json_tokens, items_tokens, members_tokens}
use Rattle.mdb_datum.specs.Doc.{Doc, nil, flag, whole, text, list, object, DocList, no_docs, doc, FieldList, no_fields, field}

abbrev mutual
  pub json_of : Doc → json.Json
  json_of nil = json.null
  json_of (flag b) = json.boolean b
  json_of (whole z) = json.number (signed_decimal z)
  json_of (text s) = json.string s
  json_of (list ds) = json.array (json_items ds)
  json_of (object fs) = json.object (json_members fs)

  pub json_items : DocList → json.Items
  json_items no_docs = json.no_items
  json_items (doc d ds) = json.item (json_of d) (json_items ds)

  pub json_members : FieldList → json.Members
  json_members no_fields = json.no_members
  json_members (field name d fs) = json.member name (json_of d) (json_members fs)

abbrev pub doc_tokens : Doc → List Token
doc_tokens d = json_tokens (json_of d)

-- with the closing bracket
abbrev pub docs_tokens : DocList → List Token
docs_tokens ds = items_tokens (json_items ds)

abbrev pub fields_tokens : FieldList → List Token
fields_tokens fs = members_tokens (json_members fs)
