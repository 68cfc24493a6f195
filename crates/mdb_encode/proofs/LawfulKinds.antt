-- Each kind is lawful by its type.
use Rattle.std.proofs.Common.{◌≡◌, ◌<◌, List, [], ◌∷◌, length, map, refl, inl, inr, arith}
use Rattle.mdb_encode.specs.Indexer.{Indexer, str, str_list, str_map, uint, sint, truth, uuid, is_set, equals, compound}
use Rattle.mdb_encode.specs.Kind.{width_bytes, scalar_doc, part_list, part_indexer, indexer_of}
use Rattle.mdb_encode.specs.Lawful.{IsWidth, IsScalar, IsPart, AreParts, IsPartList, IsLawful}
use Rattle.mdb_encode.specs.declared.kind.Kind.{Kind}
use Rattle.mdb_encode.specs.declared.kind.Kind.TheVariants as kind
use Rattle.mdb_encode.specs.declared.kind.part.Part.{Part}
use Rattle.mdb_encode.specs.declared.kind.part.Part.TheVariants as of_part
use Rattle.mdb_encode.specs.declared.kind.scalar.Scalar.{Scalar}
use Rattle.mdb_encode.specs.declared.kind.scalar.Scalar.TheVariants as scalar
use Rattle.mdb_encode.specs.declared.kind.width.Width.{Width}
use Rattle.mdb_encode.specs.declared.kind.width.Width.TheVariants as width

pub width_lawful : (w : Width) → IsWidth (width_bytes w)
width_lawful width.One = inl refl
width_lawful width.Two = inr (inl refl)
width_lawful width.Four = inr (inr (inl refl))
width_lawful width.Eight = inr (inr (inr refl))

scalar_lawful : (s : Scalar) → IsScalar (scalar_doc s)
scalar_lawful scalar.Nil = tt
scalar_lawful (scalar.Flag b) = tt
scalar_lawful (scalar.Whole z) = tt
scalar_lawful (scalar.Str s) = tt

pub part_lawful : (p : Part) → IsPart (part_indexer p)
part_lawful (of_part.Str f fold) = f.filled
part_lawful (of_part.Uint f w) = (f.filled, width_lawful w)
part_lawful (of_part.Sint f w) = (f.filled, width_lawful w)
part_lawful (of_part.Flag f) = f.filled
part_lawful (of_part.Uuid f) = f.filled
part_lawful (of_part.IsSet f) = f.filled
part_lawful (of_part.Equals f s) = (f.filled, scalar_lawful s)

parts_lawful : (ps : List Part) → AreParts (part_list (map part_indexer ps))
parts_lawful [] = tt
parts_lawful (p ∷ ps) = (part_lawful p, parts_lawful ps)

some_parts_lawful : (ps : List Part) → 0 < length ps → IsPartList (part_list (map part_indexer ps))
some_parts_lawful [] some = absurd (omega arith)
some_parts_lawful (p ∷ ps) some = (part_lawful p, parts_lawful ps)

-- a part is lawful alone
pub part_is_lawful : (i : Indexer) → IsPart i → IsLawful i
part_is_lawful (str name fold) h = h
part_is_lawful (str_list name fold) h = absurd h
part_is_lawful (str_map name fold) h = absurd h
part_is_lawful (uint name w) h = h
part_is_lawful (sint name w) h = h
part_is_lawful (truth name) h = h
part_is_lawful (uuid name) h = h
part_is_lawful (is_set name) h = h
part_is_lawful (equals name scalar) h = h
part_is_lawful (compound parts allow_missing) h = absurd h

pub kind_lawful : (k : Kind) → IsLawful (indexer_of k)
kind_lawful (kind.Part p) = part_is_lawful (part_indexer p) (part_lawful p)
kind_lawful (kind.StrList f fold) = f.filled
kind_lawful (kind.StrMap f fold) = f.filled
kind_lawful (kind.Compound ps allow_missing) = some_parts_lawful ps.parts.items ps.some
