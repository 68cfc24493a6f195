-- Whether two documents are the same, and whether two rows are.
use Rattle.std.specs.Prelude.{Bool, true, false, ◌&&◌, not, if◌then◌else◌}
use Rattle.std.specs.Ordering.{int_eq}
use Rattle.std.specs.Str.{bytes_eq}
use Rattle.mdb_datum.specs.Doc.{Doc, nil, flag, whole, text, list, object, DocList, no_docs, doc, FieldList, no_fields, field, field_list}
use Rattle.mdb_datum.specs.Row.{Fields}

abbrev same_flag : Bool → Bool → Bool
same_flag a b = if a then b else not b

abbrev mutual
  pub same_doc : Doc → Doc → Bool
  same_doc nil nil = true
  same_doc (flag a) (flag b) = same_flag a b
  same_doc (whole a) (whole b) = int_eq a b
  same_doc (text a) (text b) = bytes_eq a b
  same_doc (list ds) (list es) = same_docs ds es
  same_doc (object fs) (object gs) = same_fields fs gs
  same_doc d e = false

  pub same_docs : DocList → DocList → Bool
  same_docs no_docs no_docs = true
  same_docs (doc d ds) (doc e es) = same_doc d e && same_docs ds es
  same_docs ds es = false

  pub same_fields : FieldList → FieldList → Bool
  same_fields no_fields no_fields = true
  same_fields (field name d fs) (field other e gs) = bytes_eq name other && (same_doc d e && same_fields fs gs)
  same_fields fs gs = false

-- two rows have the same members
abbrev pub has_same_members : Fields → Fields → Bool
has_same_members row other = same_fields (field_list row) (field_list other)
