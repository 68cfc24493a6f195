-- What the walk over the tokens of a plain text reads, and where it puts a member.
use Rattle.std.specs.Prelude.{◌≡◌, ◌≤◌, ℕ, List, length, Option, option_and_then}
use Rattle.std.specs.FinMap.Entries.{put}
use Rattle.std.specs.List.{insert}
use Rattle.json.specs.Json.{value, items, members}
use Rattle.json.specs.Token.{Token}
use Rattle.serde_json.specs.Data.{no_members}
use Rattle.serde_json.specs.Read.{number_of, of_json, of_items, of_members, converted}
use Rattle.mdb_datum.specs.Bytes.{Bytes, byte_order}
use Rattle.mdb_datum.specs.Doc.{Doc, DocList, FieldList, Field}
use Rattle.mdb_datum.specs.Reading.{whole_number, whole_doc, whole_docs, whole_fields}

-- the document that the next value of tokens is, with the tokens behind it
abbrev pub next_doc : ℕ → List Token → Option (Doc × List Token)
next_doc depth tokens = converted whole_doc (converted of_json (value depth tokens))

-- the documents of the list whose items come next
abbrev pub next_docs : ℕ → List Token → Option (DocList × List Token)
next_docs depth tokens = converted whole_docs (converted of_items (items (value depth) (length tokens) tokens))

-- the members of the object whose members come next
abbrev pub next_fields : ℕ → List Token → Option (FieldList × List Token)
next_fields depth tokens =
    converted whole_fields (converted (λ ms. of_members ms no_members) (members (value depth) (length tokens) tokens))

-- the document that a number's text is, where the number is whole
abbrev pub whole_in : List ℕ → Option Doc
whole_in text = option_and_then whole_number (number_of text)

-- a member of this name goes in at the place, whatever its value is
abbrev pub IsPlaceOf : Bytes → List Field → ℕ → Type 0
IsPlaceOf name fields at = (at ≤ length fields) × ((d : Doc) → put byte_order name d fields ≡ insert fields at (name, d))
