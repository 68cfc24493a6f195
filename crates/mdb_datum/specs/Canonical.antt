-- The form of a document that was read from a text. The text of a document in this form reads as
-- that document.
use Rattle.std.specs.Prelude.{ℕ, suc, ◌^◌, ◌<◌, ◌≤◌, max, ℤ, pos, negsuc, List, [], ◌∷◌, ⊤}
use Rattle.std.specs.List.Sorted.{IsStrictlySortedBy}
use Rattle.std.specs.Str.{IsUtf8}
use Rattle.mdb_datum.specs.Bytes.{byte_order}
use Rattle.mdb_datum.specs.Doc.{Doc, nil, flag, whole, text, list, object, DocList, no_docs, doc, FieldList, no_fields, field, Field, doc_list, field_list}
use Rattle.mdb_datum.specs.Reading.{nesting_limit}

-- the number is a `u64` or an `i64`
abbrev pub FitsWord : ℤ → Type 0
FitsWord (pos n) = n < 2 ^ 64
FitsWord (negsuc n) = n < 2 ^ 63

-- the names of an object, in order
abbrev pub names_in : FieldList → List (List ℕ)
names_in no_fields = []
names_in (field name d fs) = name ∷ names_in fs

-- the names of an object rise by their bytes, so that none comes twice
abbrev pub NamesRise : FieldList → Type 0
NamesRise fs = IsStrictlySortedBy byte_order (names_in fs)

-- at every level, numbers fit 64 bits, texts and names are UTF-8, and the names of an object rise
-- by their bytes
abbrev mutual
  pub IsRegular : Doc → Type 0
  IsRegular nil = ⊤
  IsRegular (flag b) = ⊤
  IsRegular (whole z) = FitsWord z
  IsRegular (text s) = IsUtf8 s
  IsRegular (list ds) = AreRegular ds
  IsRegular (object fs) = NamesRise fs × HaveRegularMembers fs

  pub AreRegular : DocList → Type 0
  AreRegular no_docs = ⊤
  AreRegular (doc d ds) = IsRegular d × AreRegular ds

  pub HaveRegularMembers : FieldList → Type 0
  HaveRegularMembers no_fields = ⊤
  HaveRegularMembers (field name d fs) = IsUtf8 name × IsRegular d × HaveRegularMembers fs

-- how deep lists and objects nest; a scalar has nesting 0
abbrev mutual
  pub nesting : Doc → ℕ
  nesting nil = 0
  nesting (flag b) = 0
  nesting (whole z) = 0
  nesting (text s) = 0
  nesting (list ds) = suc (list_nesting ds)
  nesting (object fs) = suc (members_nesting fs)

  pub list_nesting : DocList → ℕ
  list_nesting no_docs = 0
  list_nesting (doc d ds) = max (nesting d) (list_nesting ds)

  pub members_nesting : FieldList → ℕ
  members_nesting no_fields = 0
  members_nesting (field name d fs) = max (nesting d) (members_nesting fs)

-- how deep the documents of a list nest
abbrev pub docs_nesting : List Doc → ℕ
docs_nesting ds = list_nesting (doc_list ds)

-- how deep the values of an object's members nest
abbrev pub fields_nesting : List Field → ℕ
fields_nesting fs = members_nesting (field_list fs)

-- regular, and nested no deeper than a document may be
pub record IsCanonical (d : Doc) : Type 0 where
  pub regular : IsRegular d
  pub shallow : nesting d ≤ nesting_limit
