-- The indexers, rows and keys that the worked examples share.
use Rattle.std.specs.Prelude.{◌∷◌, [], List, Bool, false, Ok, codes}
use Rattle.mdb_datum.specs.Doc.{Doc, text}
use Rattle.mdb_datum.specs.Row.{Fields}
use Rattle.mdb_encode.specs.Bytes.{Bytes}
use Rattle.mdb_encode.specs.Indexer.{Indexer, str, compound, no_parts, part}
use Rattle.mdb_encode.specs.Keys.{Keyed}

-- the member that most indexers read
abbrev pub name : Bytes
name = codes "f"

-- a row with one member
abbrev pub with_member : Doc → Fields
with_member d = (name, d) ∷ []

-- one argument
abbrev pub word : Doc → List Doc
word d = d ∷ []

-- one key
abbrev pub one_key : Bytes → Keyed
one_key k = Ok (k ∷ [])

-- two texts, under the names a and b
abbrev pub two_texts : Bool → Indexer
two_texts allow_missing =
    compound (part (str (codes "a") false) (part (str (codes "b") false) no_parts)) allow_missing

-- a row with both texts
abbrev pub east_web : Fields
east_web = (codes "a", text (codes "east")) ∷ (codes "b", text (codes "web")) ∷ []

-- a row with the first text alone
abbrev pub east : Fields
east = (codes "a", text (codes "east")) ∷ []

-- a UUID whose digits are of both cases
abbrev pub sample_uuid : Bytes
sample_uuid = codes "12345678-9ABC-def0-1234-56789abcdef0"

-- the bytes 12, 34 to f0
abbrev pub half_of_bytes : Bytes
half_of_bytes = 0x12 ∷ 0x34 ∷ 0x56 ∷ 0x78 ∷ 0x9a ∷ 0xbc ∷ 0xde ∷ 0xf0 ∷ []
