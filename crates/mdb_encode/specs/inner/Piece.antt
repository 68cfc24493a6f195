-- What a piece of a key stands for.
use Rattle.std.specs.Prelude.{◌++◌, take}
use Rattle.mdb_encode.specs.Bytes.{Bytes}
use Rattle.mdb_encode.specs.Keys.{folded, text_key, big_endian, bool_key}
use Rattle.mdb_encode.specs.Kind.{width_bytes}
use Rattle.mdb_encode.specs.declared.piece.Piece.{Piece}
use Rattle.mdb_encode.specs.declared.piece.Piece.TheVariants.{Text, Open, Pair, Number, Flag, Id, Start}

-- the bytes that it puts into a key
abbrev pub bytes_of : Piece → Bytes
bytes_of (Text s fold) = text_key fold s.now
bytes_of (Open s fold) = folded fold s.now
bytes_of (Pair name s fold) = text_key fold name.now ++ text_key fold s.now
bytes_of (Number n) = big_endian (width_bytes n.width) n.number
bytes_of (Flag b) = bool_key b
bytes_of (Id id) = id.bytes
bytes_of (Start start) = take start.len start.bytes
