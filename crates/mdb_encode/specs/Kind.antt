-- What the type `Kind` stands for, and the types that it is made of.
use Rattle.std.specs.Prelude.{◌==◌, ℕ, ℤ, pos, negsuc, List, [], ◌∷◌, map, Option, Some, None, if◌then◌else◌}
use Rattle.mdb_datum.specs.Doc.{Doc, nil, flag, whole, text}
use Rattle.mdb_encode.specs.Bytes.{Bytes}
use Rattle.mdb_encode.specs.Indexer.{Indexer, str, str_list, str_map, uint, sint, truth, uuid, is_set, equals, compound, PartList, no_parts, part}
use Rattle.mdb_encode.specs.declared.kind.Kind.{Kind}
use Rattle.mdb_encode.specs.declared.kind.Kind.TheVariants as kind
use Rattle.mdb_encode.specs.declared.kind.field.Field.{Field}
use Rattle.mdb_encode.specs.declared.kind.part.Part.{Part}
use Rattle.mdb_encode.specs.declared.kind.part.Part.TheVariants as of_part
use Rattle.mdb_encode.specs.declared.kind.parts.Parts.{Parts}
use Rattle.mdb_encode.specs.declared.kind.scalar.Scalar.{Scalar}
use Rattle.mdb_encode.specs.declared.kind.scalar.Scalar.TheVariants as scalar
use Rattle.mdb_encode.specs.declared.kind.width.Width.{Width}
use Rattle.mdb_encode.specs.declared.kind.width.Width.TheVariants as width

-- the member's name
abbrev pub name_of : Field → Bytes
name_of f = f.name

-- the number of bytes
abbrev pub width_bytes : Width → ℕ
width_bytes width.One = 1
width_bytes width.Two = 2
width_bytes width.Four = 4
width_bytes width.Eight = 8

-- the width of a number of bytes
abbrev pub width_numbered : ℤ → Option Width
width_numbered (pos n) =
    if n == 1 then Some width.One else (
    if n == 2 then Some width.Two else (
    if n == 4 then Some width.Four else (
    if n == 8 then Some width.Eight else None)))
width_numbered (negsuc n) = None

-- the document
abbrev pub scalar_doc : Scalar → Doc
scalar_doc scalar.Nil = nil
scalar_doc (scalar.Flag b) = flag b
scalar_doc (scalar.Whole z) = whole z
scalar_doc (scalar.Str s) = text s

-- indexers as the parts of a compound one
abbrev pub part_list : List Indexer → PartList
part_list [] = no_parts
part_list (i ∷ is) = part i (part_list is)

-- an indexer of at most one key
abbrev pub part_indexer : Part → Indexer
part_indexer (of_part.Str f fold) = str (name_of f) fold
part_indexer (of_part.Uint f w) = uint (name_of f) (width_bytes w)
part_indexer (of_part.Sint f w) = sint (name_of f) (width_bytes w)
part_indexer (of_part.Flag f) = truth (name_of f)
part_indexer (of_part.Uuid f) = uuid (name_of f)
part_indexer (of_part.IsSet f) = is_set (name_of f)
part_indexer (of_part.Equals f s) = equals (name_of f) (scalar_doc s)

-- the parts of a compound indexer
abbrev pub indexers_of : Parts → List Indexer
indexers_of ps = map part_indexer ps.parts.items

-- the indexer
abbrev pub indexer_of : Kind → Indexer
indexer_of (kind.Part p) = part_indexer p
indexer_of (kind.StrList f fold) = str_list (name_of f) fold
indexer_of (kind.StrMap f fold) = str_map (name_of f) fold
indexer_of (kind.Compound ps allow_missing) = compound (part_list (indexers_of ps)) allow_missing
