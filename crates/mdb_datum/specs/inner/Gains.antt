-- What adding a member of a document to others gives.
use Rattle.std.specs.Prelude.{◌≡◌, ◌++◌, ◌∷◌, List, [], Some}
use Rattle.serde_json.specs.Data.{Data}
use Rattle.mdb_datum.specs.Bytes.{Bytes}
use Rattle.mdb_datum.specs.Canonical.{IsRegular}
use Rattle.mdb_datum.specs.Doc.{Doc, Field}
use Rattle.mdb_datum.specs.Reading.{whole_doc}

-- the value is a document, which stands last among the members, under the name
pub record GainsMember
    (name : Bytes) (value : Data) (before after : List Field) : Type 0 where
  pub doc : Doc
  pub whole : whole_doc value ≡ Some doc
  pub regular : IsRegular doc
  pub added : after ≡ before ++ (name, doc) ∷ []
