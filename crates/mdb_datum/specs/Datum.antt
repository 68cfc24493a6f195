-- What the types of this crate stand for.
use Rattle.mdb_datum.specs.Doc.{Doc, nil, flag, whole, text, list, object, Field, doc_list, field_list}
use Rattle.mdb_datum.specs.declared.datum.Datum.{Datum}
use Rattle.mdb_datum.specs.declared.datum.Datum.TheVariants as datum
use Rattle.mdb_datum.specs.declared.text.Text.{Text}

-- the document
abbrev pub doc_of : Datum → Doc
doc_of datum.Nil = nil
doc_of (datum.Flag b) = flag b
doc_of (datum.Whole z) = whole z
doc_of (datum.Str s) = text s
doc_of (datum.Items ds) = list (doc_list ds)
doc_of (datum.Members fs) = object (field_list fs)

-- a name with its value, as a member of an object
abbrev pub field_of : Text × Datum → Field
field_of p = (p.0, doc_of p.1)
