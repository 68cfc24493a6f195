-- The shape of an indexer that a schema may name.
use Rattle.std.specs.Prelude.{◌≡◌, ◌<◌, ◌⊎◌, ℕ, length, ⊤, Option, Some, None}
use Rattle.mdb_datum.specs.Doc.{Doc, list, object}
use Rattle.mdb_encode.specs.Bytes.{Bytes}
use Rattle.mdb_encode.specs.Indexer.{Indexer, str, str_list, str_map, uint, sint, truth, uuid, is_set, equals, compound, PartList, no_parts, part}

-- a number is kept in 1, 2, 4 or 8 bytes
abbrev pub IsWidth : ℕ → Type 0
IsWidth w = (w ≡ 1) ⊎ (w ≡ 2) ⊎ (w ≡ 4) ⊎ (w ≡ 8)

-- null, a truth value, a whole number or a text
abbrev pub IsScalar : Doc → Type 0
IsScalar (list ds) = ⊥
IsScalar (object fs) = ⊥
IsScalar d = ⊤

-- a document, where it is a scalar
abbrev pub scalar_in : Doc → Option Doc
scalar_in (list ds) = None
scalar_in (object fs) = None
scalar_in d = Some d

-- a member's name that an index may read is not empty
abbrev pub IsFieldName : Bytes → Type 0
IsFieldName name = 0 < length name

-- an indexer of at most one key that reads one member
abbrev pub IsPart : Indexer → Type 0
IsPart (str name fold) = IsFieldName name
IsPart (str_list name fold) = ⊥
IsPart (str_map name fold) = ⊥
IsPart (uint name w) = IsFieldName name × IsWidth w
IsPart (sint name w) = IsFieldName name × IsWidth w
IsPart (truth name) = IsFieldName name
IsPart (uuid name) = IsFieldName name
IsPart (is_set name) = IsFieldName name
IsPart (equals name scalar) = IsFieldName name × IsScalar scalar
IsPart (compound parts allow_missing) = ⊥

-- each of them is an indexer of one member
abbrev pub AreParts : PartList → Type 0
AreParts no_parts = ⊤
AreParts (part i is) = IsPart i × AreParts is

-- the parts are not empty, and each is an indexer of one member
abbrev pub IsPartList : PartList → Type 0
IsPartList no_parts = ⊥
IsPartList (part i is) = IsPart i × AreParts is

-- an indexer that a schema may name
abbrev pub IsLawful : Indexer → Type 0
IsLawful (str_list name fold) = IsFieldName name
IsLawful (str_map name fold) = IsFieldName name
IsLawful (compound parts allow_missing) = IsPartList parts
IsLawful i = IsPart i
