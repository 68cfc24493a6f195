-- The shapes of the objects in a schema's document. `None` stands for another shape: a member too
-- many, one that isn't there and has to be, or one of another form. `tracked`, `unique`,
-- `allow_missing` and `lowercase` are false where they are left out.
use Rattle.std.specs.Prelude.{ℤ, List, Bool, false, if◌then◌else◌, Option, Some, None, option_and_then, [], ◌∷◌, codes}
use Rattle.std.specs.List.{list_any, list_all}
use Rattle.std.specs.Str.{bytes_eq}
use Rattle.mdb_datum.specs.Doc.{Doc, flag, whole, list, Field, docs_in, member}
use Rattle.mdb_encode.specs.Bytes.{Bytes}
use Rattle.mdb_encode.specs.Lawful.{scalar_in}
use Rattle.mdb_schema.specs.Members.{object_fields, text_bytes, filled}
use Rattle.mdb_schema.specs.declared.version.Version.{Version}
use Rattle.mdb_schema.specs.declared.version.Version.TheVariants as version

-- each member has one of these names
abbrev pub has_only : List Bytes → List Field → Bool
has_only names fs = list_all (λ f. list_any (λ name. bytes_eq f.0 name) names) fs

abbrev pub flag_or_false : Option Doc → Option Bool
flag_or_false None = Some false
flag_or_false (Some (flag b)) = Some b
flag_or_false (Some d) = None

abbrev pub number_in : Doc → Option ℤ
number_in (whole z) = Some z
number_in d = None

abbrev pub list_in : Doc → Option (List Doc)
list_in (list ds) = Some (docs_in ds)
list_in d = None

-- the member that an indexer reads: a text that isn't empty
abbrev pub field_in : List Field → Option Bytes
field_in fs = option_and_then filled (option_and_then text_bytes (member (codes "field") fs))

-- two values that have to be there
abbrev pub both : {A B : Type 0} → Option A → Option B → Option (A × B)
both None q = None
both (Some x) None = None
both (Some x) (Some y) = Some (x, y)

-- `memdb`, a whole number, and `tables`, an object
abbrev pub schema_shape : List Field → Option (ℤ × List Field)
schema_shape fs = if has_only (codes "memdb" ∷ codes "tables" ∷ []) fs
    then both (option_and_then number_in (member (codes "memdb") fs))
    (option_and_then object_fields (member (codes "tables") fs)) else None

-- the members that a table may have: `tracked` in version 2 alone
abbrev pub names_of_table : Version → List Bytes
names_of_table version.One = codes "indexes" ∷ []
names_of_table version.Two = codes "indexes" ∷ codes "tracked" ∷ []

-- `indexes`, an object, and `tracked`
abbrev pub table_shape : Version → List Field → Option (List Field × Bool)
table_shape v fs = if has_only (names_of_table v) fs
    then both (option_and_then object_fields (member (codes "indexes") fs))
    (flag_or_false (member (codes "tracked") fs)) else None

-- `indexer`, and `unique` and `allow_missing`
abbrev pub index_shape : List Field → Option (Doc × (Bool × Bool))
index_shape fs = if has_only (codes "indexer" ∷ codes "unique" ∷ codes "allow_missing" ∷ []) fs
    then both (member (codes "indexer") fs)
    (both (flag_or_false (member (codes "unique") fs))
    (flag_or_false (member (codes "allow_missing") fs))) else None

-- the members of an indexer, beside `kind`
-- `field` and `lowercase`
abbrev pub folded_shape : List Field → Option (Bytes × Bool)
folded_shape fs = if has_only (codes "kind" ∷ codes "field" ∷ codes "lowercase" ∷ []) fs
    then both (field_in fs) (flag_or_false (member (codes "lowercase") fs)) else None

-- `field` and `width`
abbrev pub width_shape : List Field → Option (Bytes × ℤ)
width_shape fs = if has_only (codes "kind" ∷ codes "field" ∷ codes "width" ∷ []) fs
    then both (field_in fs) (option_and_then number_in (member (codes "width") fs)) else None

-- `field`
abbrev pub plain_shape : List Field → Option Bytes
plain_shape fs = if has_only (codes "kind" ∷ codes "field" ∷ []) fs then field_in fs else None

-- `field` and `equals`, which is no list and no object
abbrev pub equals_shape : List Field → Option (Bytes × Doc)
equals_shape fs = if has_only (codes "kind" ∷ codes "field" ∷ codes "equals" ∷ []) fs
    then both (field_in fs) (option_and_then scalar_in (member (codes "equals") fs)) else None

-- `parts`, a list, and `allow_missing`
abbrev pub compound_shape : List Field → Option (List Doc × Bool)
compound_shape fs = if has_only (codes "kind" ∷ codes "parts" ∷ codes "allow_missing" ∷ []) fs
    then both (option_and_then list_in (member (codes "parts") fs))
    (flag_or_false (member (codes "allow_missing") fs)) else None
