-- What the reading of a schema's file is: the schema, or the first rule that it breaks, with the
-- names of the table and the index where it is broken. The tests stand in the order in which they
-- are made, and members in the order of the document, which is the byte order of their names where
-- it was read from a text.
use Rattle.std.specs.Prelude.{◌==◌, ℕ, ℤ, pos, negsuc, List, length, nat_lt, nat_le, Bool, true, false, not, if◌then◌else◌, Some, None, option_and_then, Result, Ok, Err, codes}
use Rattle.std.specs.Str.{bytes_eq}
use Rattle.mdb_datum.specs.Doc.{Doc, Field, member}
use Rattle.mdb_datum.specs.Reading.{Reading, read_as, no_json, too_deep, not_whole}
use Rattle.mdb_encode.specs.Bytes.{Bytes}
use Rattle.mdb_encode.specs.Indexer.{Indexer, str, str_list, str_map, uint, sint, truth, uuid, is_set, equals, compound}
use Rattle.mdb_encode.specs.Kind.{part_list}
use Rattle.mdb_schema.specs.Broken.{Broken, Checked, ◌>>=◌, needed, passed, at_names, each}
use Rattle.mdb_schema.specs.KindName.{kind_named}
use Rattle.mdb_schema.specs.Members.{object_fields, text_bytes}
use Rattle.mdb_schema.specs.Names.{is_declared_name}
use Rattle.mdb_schema.specs.Schema.{IndexSchema, TableSchema, DbSchema}
use Rattle.mdb_schema.specs.Shapes.{schema_shape, table_shape, index_shape, folded_shape, width_shape, plain_shape, equals_shape, compound_shape}
use Rattle.mdb_schema.specs.Version.{version_numbered}
use Rattle.mdb_schema.specs.declared.schema_rule.SchemaRule.TheVariants as rule
use Rattle.mdb_schema.specs.declared.kind_name.KindName.{KindName}
use Rattle.mdb_schema.specs.declared.kind_name.KindName.TheVariants as kind
use Rattle.mdb_schema.specs.declared.version.Version.{Version}

-- a width in bytes
abbrev pub width_of : ℤ → Checked ℕ
width_of (pos n) =
    if n == 1 then Ok 1 else (
    if n == 2 then Ok 2 else (
    if n == 4 then Ok 4 else (
    if n == 8 then Ok 8 else Err rule.BadWidth)))
width_of (negsuc n) = Err rule.BadWidth

abbrev pub folded_indexer : (Bytes → Bool → Indexer) → List Field → Checked Indexer
folded_indexer make fs = do
  shape ← needed rule.BadShape (folded_shape fs)
  Ok (make shape.0 shape.1)

-- `field`, and `width` as a width
abbrev pub sized : List Field → Checked (Bytes × ℕ)
sized fs = do
  shape ← needed rule.BadShape (width_shape fs)
  width ← width_of shape.1
  Ok (shape.0, width)

abbrev pub width_indexer : (Bytes → ℕ → Indexer) → List Field → Checked Indexer
width_indexer make fs = do
  shape ← sized fs
  Ok (make shape.0 shape.1)

abbrev pub plain_indexer : (Bytes → Indexer) → List Field → Checked Indexer
plain_indexer make fs = do
  field ← needed rule.BadShape (plain_shape fs)
  Ok (make field)

abbrev pub equals_indexer : List Field → Checked Indexer
equals_indexer fs = do
  shape ← needed rule.BadShape (equals_shape fs)
  Ok (equals shape.0 shape.1)

-- an indexer that may be a part, whose kind is known
abbrev pub single_indexer : KindName → List Field → Checked Indexer
single_indexer kind.Text fs = folded_indexer str fs
single_indexer kind.TextList fs = Err rule.BadPart
single_indexer kind.TextMap fs = Err rule.BadPart
single_indexer kind.Uint fs = width_indexer uint fs
single_indexer kind.Int fs = width_indexer sint fs
single_indexer kind.Bool fs = plain_indexer truth fs
single_indexer kind.Uuid fs = plain_indexer uuid fs
single_indexer kind.FieldSet fs = plain_indexer is_set fs
single_indexer kind.Conditional fs = equals_indexer fs
single_indexer kind.Compound fs = Err rule.BadPart

-- the kind of an indexer, and its members
abbrev pub kind_in : Doc → Checked (KindName × List Field)
kind_in d = do
  members ← needed rule.BadShape (object_fields d)
  word ← needed rule.BadShape (option_and_then text_bytes (member (codes "kind") members))
  known ← needed rule.UnknownKind (kind_named word)
  Ok (known, members)

abbrev pub part_in : Doc → Checked Indexer
part_in d = do
  known ← kind_in d
  single_indexer known.0 known.1

-- an indexer of these parts, of which there has to be one
abbrev pub compound_of : List Doc → Bool → Checked Indexer
compound_of ds allow_missing = do
  some ← passed rule.EmptyCompound (nat_lt 0 (length ds))
  parts ← each part_in ds
  Ok (compound (part_list parts) allow_missing)

abbrev pub compound_indexer : List Field → Checked Indexer
compound_indexer fs = do
  shape ← needed rule.BadShape (compound_shape fs)
  compound_of shape.0 shape.1

-- an indexer whose kind is known
abbrev pub whole_indexer : KindName → List Field → Checked Indexer
whole_indexer kind.TextList fs = folded_indexer str_list fs
whole_indexer kind.TextMap fs = folded_indexer str_map fs
whole_indexer kind.Compound fs = compound_indexer fs
whole_indexer known fs = single_indexer known fs

abbrev pub indexer_in : Doc → Checked Indexer
indexer_in d = do
  known ← kind_in d
  whole_indexer known.0 known.1

-- an indexer that may give a row several keys
abbrev pub is_multi : Indexer → Bool
is_multi (str_list name fold) = true
is_multi (str_map name fold) = true
is_multi i = false

-- what the index `id` has to be: of one key, unique, and never missing
abbrev pub id_in : Bool → Bool → Indexer → Checked (Unit {0})
id_in unique allow_missing i = do
  single ← passed rule.IdMulti (not (is_multi i))
  alone ← passed rule.IdNotUnique unique
  passed rule.IdAllowsMissing (not allow_missing)

-- what an index has to be, by its name
abbrev pub index_rules : Bytes → Bool → Bool → Indexer → Checked (Unit {0})
index_rules name unique allow_missing i =
    if bytes_eq name (codes "id") then id_in unique allow_missing i else Ok tt

-- the members of an index under its name: the indexer, and `unique` and `allow_missing`
abbrev pub index_members : Field → Checked (Doc × (Bool × Bool))
index_members f = do
  declared ← passed rule.BadName (is_declared_name f.0)
  members ← needed rule.BadShape (object_fields f.1)
  needed rule.BadShape (index_shape members)

-- the indexer of an index, where it keeps to what its name asks
abbrev pub index_kind : Bytes → Bool → Bool → Doc → Checked Indexer
index_kind name unique allow_missing d = do
  i ← indexer_in d
  kept ← index_rules name unique allow_missing i
  Ok i

-- an index under its name
abbrev pub index_in : Field → Checked IndexSchema
index_in f = do
  shape ← index_members f
  i ← index_kind f.0 shape.1.0 shape.1.1 shape.0
  Ok (record { name = f.0; unique = shape.1.0; allow_missing = shape.1.1; indexer = i })

-- an index of the table of a name
abbrev pub named_index : Bytes → Field → Result IndexSchema Broken
named_index table f = at_names (Some table) (Some f.0) (index_in f)

-- the members for the indexes of a table under its name, and whether it is tracked
abbrev pub index_list : Version → Field → Checked (List Field × Bool)
index_list v f = do
  declared ← passed rule.BadName (is_declared_name f.0)
  members ← needed rule.BadShape (object_fields f.1)
  shape ← needed rule.BadShape (table_shape v members)
  some ← passed rule.NoIndexes (nat_lt 0 (length shape.0))
  few ← passed rule.TooManyIndexes (nat_le (length shape.0) 32)
  id ← needed rule.NoId (member (codes "id") shape.0)
  Ok shape

abbrev pub table_in : Version → Field → Result TableSchema Broken
table_in v f = do
  shape ← at_names (Some f.0) None (index_list v f)
  is ← each (named_index f.0) shape.0
  Ok (record { name = f.0; tracked = shape.1; indexes = is })

-- the version of a schema's format, and the members for its tables
abbrev pub table_list : Doc → Checked (Version × List Field)
table_list d = do
  members ← needed rule.BadShape (object_fields d)
  shape ← needed rule.BadShape (schema_shape members)
  version ← needed rule.BadVersion (version_numbered shape.0)
  some ← passed rule.NoTables (nat_lt 0 (length shape.1))
  few ← passed rule.TooManyTables (nat_le (length shape.1) 64)
  Ok (version, shape.1)

abbrev pub schema_in : Doc → Result DbSchema Broken
schema_in d = do
  listed ← at_names None None (table_list d)
  each (table_in listed.0) listed.1

-- the schema that a file's reading is
abbrev pub schema_of : Reading → Result DbSchema Broken
schema_of (read_as d) = schema_in d
schema_of no_json = Err (record { rule = rule.Syntax; table = None; index = None })
schema_of too_deep = Err (record { rule = rule.Syntax; table = None; index = None })
schema_of not_whole = Err (record { rule = rule.Syntax; table = None; index = None })
