-- A JSON document as plain data (RFC 8259). A text is its UTF-8 bytes, and a number is whole.
use Rattle.std.specs.Prelude.{ℕ, ℤ, Bool, List, [], ◌∷◌, Option, Some, None, if◌then◌else◌}
use Rattle.std.specs.Str.{bytes_eq}

mutual
  pub data Doc : Type 0 where
    nil : Doc
    flag : Bool → Doc
    whole : ℤ → Doc
    text : List ℕ → Doc
    list : DocList → Doc
    object : FieldList → Doc

  pub data DocList : Type 0 where
    no_docs : DocList
    doc : Doc → DocList → DocList

  pub data FieldList : Type 0 where
    no_fields : FieldList
    field : List ℕ → Doc → FieldList → FieldList

-- a member of an object: its name and its value
abbrev pub Field : Type 0
Field = List ℕ × Doc

-- the documents of a list, in order
abbrev pub docs_in : DocList → List Doc
docs_in no_docs = []
docs_in (doc d ds) = d ∷ docs_in ds

abbrev pub doc_list : List Doc → DocList
doc_list [] = no_docs
doc_list (d ∷ ds) = doc d (doc_list ds)

-- the members of an object, in order
abbrev pub fields_in : FieldList → List Field
fields_in no_fields = []
fields_in (field name d fs) = (name, d) ∷ fields_in fs

abbrev pub field_list : List Field → FieldList
field_list [] = no_fields
field_list (f ∷ fs) = field f.0 f.1 (field_list fs)

-- the value under a name
abbrev pub member : List ℕ → List Field → Option Doc
member name [] = None
member name (f ∷ fs) = if bytes_eq f.0 name then Some f.1 else member name fs
