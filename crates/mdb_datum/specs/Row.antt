-- A row: an object in canonical form, seen as its members.
use Rattle.std.specs.Prelude.{List}
use Rattle.mdb_datum.specs.Bytes.{Bytes}
use Rattle.mdb_datum.specs.Canonical.{IsCanonical}
use Rattle.mdb_datum.specs.Doc.{Field, object, field_list}

-- the members of a row's object, in order
abbrev pub Fields : Type 0
Fields = List Field

-- a key, and the row under it
abbrev pub Pair : Type 0
Pair = Bytes × Fields

-- the object of these members is in canonical form: their names rise, and so it is at every level
-- below
abbrev pub IsCanonicalRow : Fields → Type 0
IsCanonicalRow fields = IsCanonical (object (field_list fields))
